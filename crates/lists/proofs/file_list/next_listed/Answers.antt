use Rattle.std.proofs.Common.{arith}
use Rattle.lists.specs.Asking.{stays_err, stays_joined, stays_ok, stays_unasked}
use Rattle.lists.proofs.Passed.{passed_answering, passed_stays}
use Rattle.lists.proofs.file_list.next_listed.Goals as goal

pub returns-in_err-place-clause-stays : goal.returns-in_err-place-clause-stays
returns-in_err-place-clause-stays g c = passed_stays _ _ _ c.from_residual.result c.in_err-place.field-0.0 c.from_residual.ensures.1 (stays_unasked _) c.in_err-place.ensures.stays

pub returns-in_err-place-clause-fault : goal.returns-in_err-place-clause-fault
returns-in_err-place-clause-fault g c = passed_answering c.from_residual.result c.in_err-place.field-0.0 c.from_residual.ensures.1 c.in_err-place.ensures.fault

pub returns-in_default-clause-receipt : goal.returns-in_default-clause-receipt
returns-in_default-clause-receipt g c = λ s meant. tt

pub returns-in_default-clause-stays : goal.returns-in_default-clause-stays
returns-in_default-clause-stays g c = c.in_ok-place.ensures.stays

pub returns-in_default-clause-fault : goal.returns-in_default-clause-fault
returns-in_default-clause-fault g c = tt

pub returns-in-Ok-None-clause-next : goal.returns-in-Ok-None-clause-next
returns-in-Ok-None-clause-next g c = λ s meant. tt

pub returns-in-Ok-None-clause-receipt : goal.returns-in-Ok-None-clause-receipt
returns-in-Ok-None-clause-receipt g c = λ s meant. tt

pub returns-in-Ok-None-clause-stays : goal.returns-in-Ok-None-clause-stays
returns-in-Ok-None-clause-stays g c = stays_joined _ _ _ _ c.in_ok-place.ensures.stays (stays_ok _ _ _ c.in-Ok-None.ensures.rest)

pub returns-in-Ok-None-clause-fault : goal.returns-in-Ok-None-clause-fault
returns-in-Ok-None-clause-fault g c = tt

pub returns-in-Err-clause-next : goal.returns-in-Err-clause-next
returns-in-Err-clause-next g c = λ s meant. tt

pub returns-in-Err-clause-receipt : goal.returns-in-Err-clause-receipt
returns-in-Err-clause-receipt g c = λ s meant. tt

pub returns-in-Err-clause-stays : goal.returns-in-Err-clause-stays
returns-in-Err-clause-stays g c = stays_joined _ _ _ _ c.in_ok-place.ensures.stays (stays_err _ _ _ c.in-Err.ensures.rest)

pub returns-in-Err-clause-fault : goal.returns-in-Err-clause-fault
returns-in-Err-clause-fault g c = tt

pub returns-in-Ok-Some-clause-stays : goal.returns-in-Ok-Some-clause-stays
returns-in-Ok-Some-clause-stays g c = stays_joined _ _ _ _ c.in_ok-place.ensures.stays (stays_ok _ _ _ c.in-Ok-Some.ensures.rest)

pub returns-in-Ok-Some-clause-fault : goal.returns-in-Ok-Some-clause-fault
returns-in-Ok-Some-clause-fault g c = tt

pub returns-in-Ok-Some-clause-next : goal.returns-in-Ok-Some-clause-next
returns-in-Ok-Some-clause-next g c = grind arith

pub returns-in-Ok-Some-clause-receipt : goal.returns-in-Ok-Some-clause-receipt
returns-in-Ok-Some-clause-receipt g c = grind arith

pub returns-in_default-clause-next : goal.returns-in_default-clause-next
returns-in_default-clause-next g c = grind arith
