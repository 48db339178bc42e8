use Rattle.std.proofs.Common.{map, subst, arith}
use Rattle.lists.specs.Keys.{AreLimits}
use Rattle.lists.specs.Asking.{stays_err, stays_joined, stays_ok}
use Rattle.lists.proofs.Passed.{passed_answering, passed_stays}
use Rattle.lists.proofs.key_list.next_key.Goals as goal

pub returns-in-Ok-None-clause-row : goal.returns-in-Ok-None-clause-row
returns-in-Ok-None-clause-row g c = λ s meant. tt

pub returns-in-Ok-None-clause-limits : goal.returns-in-Ok-None-clause-limits
returns-in-Ok-None-clause-limits g c = λ s meant. tt

pub returns-in-Ok-None-clause-stays : goal.returns-in-Ok-None-clause-stays
returns-in-Ok-None-clause-stays g c = stays_ok _ _ _ c.in-Ok-None.ensures.rest

pub returns-in-Ok-None-clause-fault : goal.returns-in-Ok-None-clause-fault
returns-in-Ok-None-clause-fault g c = tt

pub returns-in-Err-clause-next : goal.returns-in-Err-clause-next
returns-in-Err-clause-next g c = λ s meant. tt

pub returns-in-Err-clause-row : goal.returns-in-Err-clause-row
returns-in-Err-clause-row g c = λ s meant. tt

pub returns-in-Err-clause-limits : goal.returns-in-Err-clause-limits
returns-in-Err-clause-limits g c = λ s meant. tt

pub returns-in-Err-clause-stays : goal.returns-in-Err-clause-stays
returns-in-Err-clause-stays g c = stays_err _ _ _ c.in-Err.ensures.rest

pub returns-in-Err-clause-fault : goal.returns-in-Err-clause-fault
returns-in-Err-clause-fault g c = tt

pub returns-in-Ok-None-key-clause-next : goal.returns-in-Ok-None-key-clause-next
returns-in-Ok-None-key-clause-next g c = λ s meant. tt

pub returns-in-Ok-None-key-clause-row : goal.returns-in-Ok-None-key-clause-row
returns-in-Ok-None-key-clause-row g c = λ s meant. tt

pub returns-in-Ok-None-key-clause-limits : goal.returns-in-Ok-None-key-clause-limits
returns-in-Ok-None-key-clause-limits g c = λ s meant. tt

pub returns-in-Ok-None-key-clause-stays : goal.returns-in-Ok-None-key-clause-stays
returns-in-Ok-None-key-clause-stays g c = stays_joined _ _ _ _ (stays_ok _ _ _ c.in-Ok-Some.ensures.rest) (stays_ok _ _ _ c.in-Ok-None-key.ensures.rest)

pub returns-in-Ok-None-key-clause-fault : goal.returns-in-Ok-None-key-clause-fault
returns-in-Ok-None-key-clause-fault g c = tt

pub returns-in-Err-key-clause-next : goal.returns-in-Err-key-clause-next
returns-in-Err-key-clause-next g c = λ s meant. tt

pub returns-in-Err-key-clause-row : goal.returns-in-Err-key-clause-row
returns-in-Err-key-clause-row g c = λ s meant. tt

pub returns-in-Err-key-clause-limits : goal.returns-in-Err-key-clause-limits
returns-in-Err-key-clause-limits g c = λ s meant. tt

pub returns-in-Err-key-clause-stays : goal.returns-in-Err-key-clause-stays
returns-in-Err-key-clause-stays g c = stays_joined _ _ _ _ (stays_ok _ _ _ c.in-Ok-Some.ensures.rest) (stays_err _ _ _ c.in-Err-key.ensures.rest)

pub returns-in-Err-key-clause-fault : goal.returns-in-Err-key-clause-fault
returns-in-Err-key-clause-fault g c = tt

pub returns-in_err-boxes-clause-stays : goal.returns-in_err-boxes-clause-stays
returns-in_err-boxes-clause-stays g c = passed_stays _ _ _ c.from_residual.result c.in_err-boxes.field-0.0 c.from_residual.ensures.1 (stays_joined _ _ _ _ (stays_ok _ _ _ c.in-Ok-Some.ensures.rest) (stays_ok _ _ _ c.in-Ok-Some-key.ensures.rest)) c.in_err-boxes.ensures.stays

pub returns-in_err-boxes-clause-fault : goal.returns-in_err-boxes-clause-fault
returns-in_err-boxes-clause-fault g c = passed_answering c.from_residual.result c.in_err-boxes.field-0.0 c.from_residual.ensures.1 c.in_err-boxes.ensures.fault

pub returns-clause-stays : goal.returns-clause-stays
returns-clause-stays g c = stays_joined _ _ _ _ (stays_joined _ _ _ _ (stays_ok _ _ _ c.in-Ok-Some.ensures.rest) (stays_ok _ _ _ c.in-Ok-Some-key.ensures.rest)) c.in_ok-boxes.ensures.stays

pub returns-clause-fault : goal.returns-clause-fault
returns-clause-fault g c = tt

pub returns-clause-limits : goal.returns-clause-limits
returns-clause-limits g c = λ s (means, sound, honest).
    let known = c.in-Ok-Some-key.ensures.rest.same s (c.in-Ok-Some.ensures.rest.same s means) in
    subst (λ id. AreLimits s id (map (λ b. b.items) c.in_ok-boxes.boxes.items)) c.deref-2.ensures.value (c.in_ok-boxes.ensures.value s (known, sound, honest))

pub returns-clause-next : goal.returns-clause-next
returns-clause-next g c = grind arith

pub returns-clause-row : goal.returns-clause-row
returns-clause-row g c = grind arith

pub returns-in-Ok-None-clause-next : goal.returns-in-Ok-None-clause-next
returns-in-Ok-None-clause-next g c = grind arith
