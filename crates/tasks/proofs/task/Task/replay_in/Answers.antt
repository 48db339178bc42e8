use Rattle.std.proofs.Common.{arith}
use Rattle.tasks.proofs.task.Task.replay_in.Goals as goal

pub returns-in-None-clause-named : goal.returns-in-None-clause-named
returns-in-None-clause-named c = grind arith

pub returns-in-Some-2-clause-task : goal.returns-in-Some-2-clause-task
returns-in-Some-2-clause-task c = grind arith

pub returns-in_default-clause-named : goal.returns-in_default-clause-named
returns-in_default-clause-named c = grind arith
