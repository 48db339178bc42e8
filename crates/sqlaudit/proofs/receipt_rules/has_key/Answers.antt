use Rattle.std.proofs.Common.{arith}
use Rattle.sqlaudit.proofs.receipt_rules.has_key.Goals as goal

pub returns : goal.returns
returns c = grind arith
