use Rattle.std.proofs.Common.{arith}
use Rattle.sqlaudit.proofs.receipt_rules.entry_of.Goals as goal

pub returns : goal.returns
returns c = grind arith

pub returns-in_default : goal.returns-in_default
returns-in_default c = grind arith
