use Rattle.std.proofs.Common.{arith}
use Rattle.sqlaudit.proofs.opening.begin_named.Goals as goal

pub returns-else-is_table-5 : goal.returns-else-is_table-5
returns-else-is_table-5 c = grind arith
