use Rattle.std.proofs.Common.{arith}
use Rattle.commands.proofs.memory.group_bound.Goals as goal

pub loop-group-init : goal.loop-group-init
loop-group-init g c = grind arith

pub loop-group-preserved : goal.loop-group-preserved
loop-group-preserved g c = grind arith

pub new-requires-text-text : goal.new-requires-text-text
new-requires-text-text g c = grind arith
