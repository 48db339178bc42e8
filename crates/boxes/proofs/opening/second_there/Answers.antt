use Rattle.std.proofs.Common.{arith}
use Rattle.boxes.proofs.opening.second_there.Goals as goal

pub overflow_add-result : goal.overflow_add-result
overflow_add-result c = grind arith
