use Rattle.std.proofs.Common.{arith}
use Rattle.sqlaudit.proofs.rules.is_offset.Goals as goal

pub returns-else-line : goal.returns-else-line
returns-else-line c = grind arith

pub returns-then-line : goal.returns-then-line
returns-then-line c = grind arith
