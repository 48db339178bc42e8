use Rattle.std.proofs.Common.{inr, ap, subst, is_some, arith}
use Rattle.clap.specs.Words.{found_of, rows_of}
use Rattle.tasks.specs.Tasks.{HasOneSecret}
use Rattle.tasks.proofs.TaskFaults.{rows_of_init}
use Rattle.tasks.proofs.TaskValues.{found_is}
use Rattle.tasks.proofs.task.secret_fault.Goals as goal

pub returns-in-Some-None-clause-one : goal.returns-in-Some-None-clause-one
returns-in-Some-None-clause-one c =
    λ none rows named.
    subst HasOneSecret (rows_of_init (rows_of (found_of c.in_ok-values.values.now)) rows _ c.in_ok-values.ensures.rows named)
    (inr (c.value_of.ensures.absent c.in-Some-None.is-0, ap is_some (found_is c.value_of-2.result c.in-Some-None.field-0-1 _ c.value_of-2.ensures.value c.in-Some-None.is-1)))

pub returns-in-None-None-clause-fault : goal.returns-in-None-None-clause-fault
returns-in-None-None-clause-fault c = grind arith

pub returns-in-None-None-clause-one : goal.returns-in-None-None-clause-one
returns-in-None-None-clause-one c = grind arith

pub returns-in-Some-None-2-clause-one : goal.returns-in-Some-None-2-clause-one
returns-in-Some-None-2-clause-one c = grind arith

pub returns-in-Some-Some-clause-fault : goal.returns-in-Some-Some-clause-fault
returns-in-Some-Some-clause-fault c = grind arith

pub returns-in-Some-Some-clause-one : goal.returns-in-Some-Some-clause-one
returns-in-Some-Some-clause-one c = grind arith

pub returns-in_err-values-clause-fault : goal.returns-in_err-values-clause-fault
returns-in_err-values-clause-fault c = grind arith

pub returns-in_err-values-clause-one : goal.returns-in_err-values-clause-one
returns-in_err-values-clause-one c = grind arith
