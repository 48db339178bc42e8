use Rattle.std.proofs.Common.{arith}
use Rattle.sqlaudit.proofs.receipt_rules.place_of.Goals as goal

pub overflow_cast-result : goal.overflow_cast-result
overflow_cast-result c = grind arith

pub returns : goal.returns
returns c = grind arith
