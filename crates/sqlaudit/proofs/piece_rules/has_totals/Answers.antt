use Rattle.std.proofs.Common.{arith}
use Rattle.sqlaudit.proofs.piece_rules.has_totals.Goals as goal

pub returns-then-is_sum : goal.returns-then-is_sum
returns-then-is_sum c = grind arith
