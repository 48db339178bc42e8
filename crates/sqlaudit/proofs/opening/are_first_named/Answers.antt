use Rattle.std.proofs.Common.{arith}
use Rattle.sqlaudit.proofs.opening.are_first_named.Goals as goal

pub returns-else-len-eq5 : goal.returns-else-len-eq5
returns-else-len-eq5 c = grind arith

pub returns-then-len-eq5 : goal.returns-then-len-eq5
returns-then-len-eq5 c = grind arith
