use Rattle.std.proofs.Common.{arith}
use Rattle.lists.proofs.comparing.find.Goals as goal

pub returns-else-is_same : goal.returns-else-is_same
returns-else-is_same c = grind arith

pub returns-then-is_same : goal.returns-then-is_same
returns-then-is_same c = grind arith
