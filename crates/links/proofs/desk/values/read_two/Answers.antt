use Rattle.std.proofs.Common.{arith}
use Rattle.links.proofs.desk.values.read_two.Goals as goal

pub overflow_sub-low : goal.overflow_sub-low
overflow_sub-low c = grind arith
