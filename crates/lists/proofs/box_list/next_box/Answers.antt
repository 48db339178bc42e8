use Rattle.std.proofs.Common.{arith}
use Rattle.lists.specs.Asking.{stays_err, stays_joined, stays_ok}
use Rattle.lists.proofs.box_list.next_box.Goals as goal

pub returns-in-Ok-None-clause-row : goal.returns-in-Ok-None-clause-row
returns-in-Ok-None-clause-row g c = λ s meant. tt

pub returns-in-Ok-None-clause-totals : goal.returns-in-Ok-None-clause-totals
returns-in-Ok-None-clause-totals g c = λ s meant. tt

pub returns-in-Ok-None-clause-stays : goal.returns-in-Ok-None-clause-stays
returns-in-Ok-None-clause-stays g c = stays_ok _ _ _ c.in-Ok-None.ensures.rest

pub returns-in-Ok-None-clause-fault : goal.returns-in-Ok-None-clause-fault
returns-in-Ok-None-clause-fault g c = tt

pub returns-in-Err-clause-next : goal.returns-in-Err-clause-next
returns-in-Err-clause-next g c = λ s meant. tt

pub returns-in-Err-clause-row : goal.returns-in-Err-clause-row
returns-in-Err-clause-row g c = λ s meant. tt

pub returns-in-Err-clause-totals : goal.returns-in-Err-clause-totals
returns-in-Err-clause-totals g c = λ s meant. tt

pub returns-in-Err-clause-stays : goal.returns-in-Err-clause-stays
returns-in-Err-clause-stays g c = stays_err _ _ _ c.in-Err.ensures.rest

pub returns-in-Err-clause-fault : goal.returns-in-Err-clause-fault
returns-in-Err-clause-fault g c = tt

pub returns-in-Ok-None-box_row-clause-next : goal.returns-in-Ok-None-box_row-clause-next
returns-in-Ok-None-box_row-clause-next g c = λ s meant. tt

pub returns-in-Ok-None-box_row-clause-row : goal.returns-in-Ok-None-box_row-clause-row
returns-in-Ok-None-box_row-clause-row g c = λ s meant. tt

pub returns-in-Ok-None-box_row-clause-totals : goal.returns-in-Ok-None-box_row-clause-totals
returns-in-Ok-None-box_row-clause-totals g c = λ s meant. tt

pub returns-in-Ok-None-box_row-clause-stays : goal.returns-in-Ok-None-box_row-clause-stays
returns-in-Ok-None-box_row-clause-stays g c = stays_joined _ _ _ _ (stays_ok _ _ _ c.in-Ok-Some.ensures.rest) (stays_ok _ _ _ c.in-Ok-None-box_row.ensures.rest)

pub returns-in-Ok-None-box_row-clause-fault : goal.returns-in-Ok-None-box_row-clause-fault
returns-in-Ok-None-box_row-clause-fault g c = tt

pub returns-in-Err-box_row-clause-next : goal.returns-in-Err-box_row-clause-next
returns-in-Err-box_row-clause-next g c = λ s meant. tt

pub returns-in-Err-box_row-clause-row : goal.returns-in-Err-box_row-clause-row
returns-in-Err-box_row-clause-row g c = λ s meant. tt

pub returns-in-Err-box_row-clause-totals : goal.returns-in-Err-box_row-clause-totals
returns-in-Err-box_row-clause-totals g c = λ s meant. tt

pub returns-in-Err-box_row-clause-stays : goal.returns-in-Err-box_row-clause-stays
returns-in-Err-box_row-clause-stays g c = stays_joined _ _ _ _ (stays_ok _ _ _ c.in-Ok-Some.ensures.rest) (stays_err _ _ _ c.in-Err-box_row.ensures.rest)

pub returns-in-Err-box_row-clause-fault : goal.returns-in-Err-box_row-clause-fault
returns-in-Err-box_row-clause-fault g c = tt

pub returns-in-Err-sizes-clause-next : goal.returns-in-Err-sizes-clause-next
returns-in-Err-sizes-clause-next g c = λ s meant. tt

pub returns-in-Err-sizes-clause-row : goal.returns-in-Err-sizes-clause-row
returns-in-Err-sizes-clause-row g c = λ s meant. tt

pub returns-in-Err-sizes-clause-totals : goal.returns-in-Err-sizes-clause-totals
returns-in-Err-sizes-clause-totals g c = λ s meant. tt

pub returns-in-Err-sizes-clause-stays : goal.returns-in-Err-sizes-clause-stays
returns-in-Err-sizes-clause-stays g c = stays_joined _ _ _ _ (stays_joined _ _ _ _ (stays_ok _ _ _ c.in-Ok-Some.ensures.rest) (stays_ok _ _ _ c.in-Ok-Some-box_row.ensures.rest)) (stays_err _ _ _ c.in-Err-sizes.ensures.rest)

pub returns-in-Err-sizes-clause-fault : goal.returns-in-Err-sizes-clause-fault
returns-in-Err-sizes-clause-fault g c = tt

pub returns-in-Ok-clause-stays : goal.returns-in-Ok-clause-stays
returns-in-Ok-clause-stays g c = stays_joined _ _ _ _ (stays_joined _ _ _ _ (stays_ok _ _ _ c.in-Ok-Some.ensures.rest) (stays_ok _ _ _ c.in-Ok-Some-box_row.ensures.rest)) (stays_ok _ _ _ c.in-Ok.ensures.rest)

pub returns-in-Ok-clause-fault : goal.returns-in-Ok-clause-fault
returns-in-Ok-clause-fault g c = tt

pub returns-in-Ok-None-clause-next : goal.returns-in-Ok-None-clause-next
returns-in-Ok-None-clause-next g c = grind arith

pub returns-in-Ok-clause-next : goal.returns-in-Ok-clause-next
returns-in-Ok-clause-next g c = grind arith

pub returns-in-Ok-clause-row : goal.returns-in-Ok-clause-row
returns-in-Ok-clause-row g c = grind arith

pub returns-in-Ok-clause-totals : goal.returns-in-Ok-clause-totals
returns-in-Ok-clause-totals g c = grind arith
