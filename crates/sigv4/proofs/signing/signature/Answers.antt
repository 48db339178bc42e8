use Rattle.std.proofs.Common.{arith}
use Rattle.sigv4.proofs.signing.signature.Goals as goal

pub returns : goal.returns
returns c = grind arith
