use Rattle.std.proofs.Common.{inl, inr, refl}
use Rattle.clap.specs.Words.{kind_of}
use Rattle.dropoffice.proofs.Less.{performs_less}
use Rattle.dropoffice.proofs.program.perform.Goals as goal

pub returns-in-Ok-clause-office : goal.returns-in-Ok-clause-office
returns-in-Ok-clause-office g c ours clean =
    inl (c.in-Ok.task, record { accepts = c.in-Ok.ensures.kinds; names = c.in-Ok.ensures.task }, performs_less c.status_of.ensures _ _ _ _ _ _ _ _ _ _ _ _ _ _ _ _ c.in-Ok.task (c.end_task-ended.ensures.office ours clean))

pub returns-in-Ok-clause-done : goal.returns-in-Ok-clause-done
returns-in-Ok-clause-done g c zero = inl (c.in-Ok.task, record { accepts = c.in-Ok.ensures.kinds; names = c.in-Ok.ensures.task }, c.end_task-ended.ensures.done (c.status_of.ensures zero))

pub returns-in-Err-clause-office : goal.returns-in-Err-clause-office
returns-in-Err-clause-office g c ours clean = inr (record { kind = kind_of c.in-Err.error; fault = c.in-Err.ensures.kinds; unopened = refl; idle = refl })
