use Rattle.std.proofs.Common.{arith}
use Rattle.sqlaudit.proofs.receipt_rules.stands_at.Goals as goal

pub returns-in-Some : goal.returns-in-Some
returns-in-Some c = grind arith
