use Rattle.std.proofs.Common.{arith}
use Rattle.lists.specs.Asking.{stays_err, stays_ok}
use Rattle.lists.proofs.exporting.file_at.Goals as goal

pub returns-in-Ok-None-clause-stays : goal.returns-in-Ok-None-clause-stays
returns-in-Ok-None-clause-stays g c = stays_ok _ _ _ c.in-Ok-None.ensures.rest

pub returns-in-Err-clause-stays : goal.returns-in-Err-clause-stays
returns-in-Err-clause-stays g c = stays_err _ _ _ c.in-Err.ensures.rest

pub returns-in-Ok-Some-clause-stays : goal.returns-in-Ok-Some-clause-stays
returns-in-Ok-Some-clause-stays g c = grind arith

pub returns-in-Ok-Some-clause-value : goal.returns-in-Ok-Some-clause-value
returns-in-Ok-Some-clause-value g c = grind arith
