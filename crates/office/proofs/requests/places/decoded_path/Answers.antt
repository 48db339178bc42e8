use Rattle.std.proofs.Common.{arith}
use Rattle.office.proofs.requests.places.decoded_path.Goals as goal

pub returns : goal.returns
returns c = grind arith
