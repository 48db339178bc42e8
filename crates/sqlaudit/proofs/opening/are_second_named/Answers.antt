use Rattle.std.proofs.Common.{arith}
use Rattle.sqlaudit.proofs.opening.are_second_named.Goals as goal

pub returns-else-len-eq6 : goal.returns-else-len-eq6
returns-else-len-eq6 c = grind arith
