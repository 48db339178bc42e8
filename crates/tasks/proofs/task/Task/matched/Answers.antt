use Rattle.std.proofs.Common.{refl, arith}
use Rattle.tasks.proofs.TaskValues.{not_none}
use Rattle.tasks.proofs.task.Task.matched.Goals as goal

-- this case does not occur
pub returns-in_ok-error-in-None-clause-fault : goal.returns-in_ok-error-in-None-clause-fault
returns-in_ok-error-in-None-clause-fault c =
    let named = c.requires (c.in_default.ensures.one refl) in
    absurd (not_none c.in_ok-task.field-0 (c.in_ok-task.ensures.named named) c.in-None.is)

pub returns-in-Some-2-clause-fault : goal.returns-in-Some-2-clause-fault
returns-in-Some-2-clause-fault c = grind arith

pub returns-in-Some-2-clause-task : goal.returns-in-Some-2-clause-task
returns-in-Some-2-clause-task c = grind arith

pub returns-in-Some-clause-fault : goal.returns-in-Some-clause-fault
returns-in-Some-clause-fault c = grind arith

pub returns-in-Some-clause-task : goal.returns-in-Some-clause-task
returns-in-Some-clause-task c = grind arith

pub returns-in_ok-error-in-None-clause-task : goal.returns-in_ok-error-in-None-clause-task
returns-in_ok-error-in-None-clause-task c = grind arith
