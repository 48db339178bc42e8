use Rattle.std.proofs.Common.{arith}
use Rattle.links.proofs.writing.all_params.Goals as goal

pub returns : goal.returns
returns c = grind arith
