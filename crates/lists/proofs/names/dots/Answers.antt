use Rattle.std.proofs.Common.{arith}
use Rattle.lists.proofs.names.dots.Goals as goal

pub dots-preserved : goal.dots-preserved
dots-preserved c = grind arith
