use Rattle.std.proofs.Common.{arith}
use Rattle.boxes.proofs.opening.weekday_there.Goals as goal

pub overflow_add-day : goal.overflow_add-day
overflow_add-day c = grind arith
