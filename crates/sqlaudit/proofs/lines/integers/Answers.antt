use Rattle.std.proofs.Common.{arith}
use Rattle.std.proofs.lemmas.Grind.{common_steps}
use Rattle.sqlaudit.proofs.lines.integers.Goals as goal

pub loop-at-init : goal.loop-at-init
loop-at-init g c = grind (arith, common_steps)

pub offset_bounds-numbers-at : goal.offset_bounds-numbers-at
offset_bounds-numbers-at g c = grind arith
