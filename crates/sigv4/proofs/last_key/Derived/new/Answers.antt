use Rattle.std.proofs.Common.{arith}
use Rattle.sigv4.proofs.last_key.Derived.new.Goals as goal

pub invariant_of-result : goal.invariant_of-result
invariant_of-result c = grind arith
