use Rattle.std.proofs.Common.{arith}
use Rattle.sigv4.proofs.last_key.Derived.is_of.Goals as goal

pub returns-else-eq-2 : goal.returns-else-eq-2
returns-else-eq-2 c = grind arith
