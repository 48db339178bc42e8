use Rattle.std.proofs.Common.{arith}
use Rattle.boxes.proofs.opening.minute_there.Goals as goal

pub overflow_cast-result : goal.overflow_cast-result
overflow_cast-result c = grind arith
