use Rattle.std.proofs.Common.{arith}
use Rattle.sqlaudit.proofs.receipt_rules.is_short.Goals as goal

pub returns : goal.returns
returns c = grind arith
