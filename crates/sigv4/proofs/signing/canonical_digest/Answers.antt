use Rattle.std.proofs.Common.{arith}
use Rattle.sigv4.proofs.signing.canonical_digest.Goals as goal

pub returns : goal.returns
returns c = grind arith
