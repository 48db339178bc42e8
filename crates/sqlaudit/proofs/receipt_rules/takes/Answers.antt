use Rattle.std.proofs.Common.{arith}
use Rattle.sqlaudit.proofs.receipt_rules.takes.Goals as goal

pub returns-in-None : goal.returns-in-None
returns-in-None c = grind arith

pub returns-in-Some : goal.returns-in-Some
returns-in-Some c = grind arith
