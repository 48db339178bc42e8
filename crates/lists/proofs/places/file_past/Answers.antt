use Rattle.std.proofs.Common.{[], Some, None, subst, arith}
use Rattle.sigtext.specs.Bytes.{bytes_cmp}
use Rattle.boxes.specs.Next.{IsBox, IsFileIn, IsNext}
use Rattle.lists.specs.Asking.{stays_err, stays_joined, stays_ok, stays_unasked}
use Rattle.lists.proofs.NextFiles.{past_ends, past_found, past_moves}
use Rattle.lists.proofs.places.file_past.Goals as goal

pub returns-in-Ok-None-clause-value : goal.returns-in-Ok-None-clause-value
returns-in-Ok-None-clause-value g c = λ s (means, sound, honest).
    let past = c.boxes.invariant.past s (means, sound, c.box_after.ensures.rest.honest honest) in
    let next = rw c.in-Ok-None.field-0-is at c.in-Ok-None.ensures.value s (c.boxes.invariant.stays.same s means) sound honest in
    past_ends s c.args.in_box.now c.boxes.after.items sound past (subst (λ t. IsNext bytes_cmp (IsBox s) t None) c.deref.ensures.value next)

pub returns-in-Ok-Some-file_after-clause-value : goal.returns-in-Ok-Some-file_after-clause-value
returns-in-Ok-Some-file_after-clause-value g c = λ s (means, sound, honest).
    let asked = c.file_after.ensures.rest.honest honest in
    let past = c.boxes.invariant.past s (means, sound, c.box_after.ensures.rest.honest asked) in
    let known = c.boxes.invariant.stays.same s means in
    let next = rw c.in-Ok-Some.field-0-is at c.in-Ok-Some.ensures.value s known sound asked in
    let file = rw c.in-Ok-Some-file_after.field-0-is at c.in-Ok-Some-file_after.ensures.value s (c.box_after.ensures.rest.same s known) sound honest in
    past_found s c.args.in_box.now c.boxes.after.items c.in-Ok-Some.next.items c.in-Ok-Some-file_after.name.items sound past
    (subst (λ t. IsNext bytes_cmp (IsBox s) t (Some c.in-Ok-Some.next.items)) c.deref.ensures.value next)
    (subst (λ t. IsNext bytes_cmp (IsFileIn s t) [] (Some c.in-Ok-Some-file_after.name.items)) c.deref-in-boxes.ensures.value file)

pub boxes-preserved : goal.boxes-preserved
boxes-preserved g c = record {
  stays = stays_joined _ _ _ _ (stays_joined _ _ _ _ c.boxes.invariant.stays (stays_ok _ _ _ c.in-Ok-Some.ensures.rest)) (stays_ok _ _ _ c.in-Ok-None-file_after.ensures.rest);
  past = λ s (means, sound, honest).
      let asked = c.file_after.ensures.rest.honest honest in
      let past = c.boxes.invariant.past s (means, sound, c.box_after.ensures.rest.honest asked) in
      let known = c.boxes.invariant.stays.same s means in
      let next = rw c.in-Ok-Some.field-0-is at c.in-Ok-Some.ensures.value s known sound asked in
      let none = rw c.in-Ok-None-file_after.field-0-is at c.in-Ok-None-file_after.ensures.value s (c.box_after.ensures.rest.same s known) sound honest in
      past_moves s c.args.in_box.now c.boxes.after.items c.in-Ok-Some.next.items sound past
      (subst (λ t. IsNext bytes_cmp (IsBox s) t (Some c.in-Ok-Some.next.items)) c.deref.ensures.value next)
      (subst (λ t. IsNext bytes_cmp (IsFileIn s t) [] None) c.deref-in-boxes.ensures.value none);
}

pub returns-in_default-clause-value : goal.returns-in_default-clause-value
returns-in_default-clause-value g c = λ s meant. tt

pub returns-in_default-clause-stays : goal.returns-in_default-clause-stays
returns-in_default-clause-stays g c = stays_unasked _

pub returns-in_default-clause-fault : goal.returns-in_default-clause-fault
returns-in_default-clause-fault g c = tt

pub returns-in-Ok-None-clause-stays : goal.returns-in-Ok-None-clause-stays
returns-in-Ok-None-clause-stays g c = stays_joined _ _ _ _ c.boxes.invariant.stays (stays_ok _ _ _ c.in-Ok-None.ensures.rest)

pub returns-in-Ok-None-clause-fault : goal.returns-in-Ok-None-clause-fault
returns-in-Ok-None-clause-fault g c = tt

pub returns-in-Err-clause-value : goal.returns-in-Err-clause-value
returns-in-Err-clause-value g c = λ s meant. tt

pub returns-in-Err-clause-stays : goal.returns-in-Err-clause-stays
returns-in-Err-clause-stays g c = stays_joined _ _ _ _ c.boxes.invariant.stays (stays_err _ _ _ c.in-Err.ensures.rest)

pub returns-in-Err-clause-fault : goal.returns-in-Err-clause-fault
returns-in-Err-clause-fault g c = tt

pub returns-in-Ok-Some-file_after-clause-stays : goal.returns-in-Ok-Some-file_after-clause-stays
returns-in-Ok-Some-file_after-clause-stays g c = stays_joined _ _ _ _ (stays_joined _ _ _ _ c.boxes.invariant.stays (stays_ok _ _ _ c.in-Ok-Some.ensures.rest)) (stays_ok _ _ _ c.in-Ok-Some-file_after.ensures.rest)

pub returns-in-Ok-Some-file_after-clause-fault : goal.returns-in-Ok-Some-file_after-clause-fault
returns-in-Ok-Some-file_after-clause-fault g c = tt

pub returns-in-Err-file_after-clause-value : goal.returns-in-Err-file_after-clause-value
returns-in-Err-file_after-clause-value g c = λ s meant. tt

pub returns-in-Err-file_after-clause-stays : goal.returns-in-Err-file_after-clause-stays
returns-in-Err-file_after-clause-stays g c = stays_joined _ _ _ _ (stays_joined _ _ _ _ c.boxes.invariant.stays (stays_ok _ _ _ c.in-Ok-Some.ensures.rest)) (stays_err _ _ _ c.in-Err-file_after.ensures.rest)

pub returns-in-Err-file_after-clause-fault : goal.returns-in-Err-file_after-clause-fault
returns-in-Err-file_after-clause-fault g c = tt

pub returns-clause-value : goal.returns-clause-value
returns-clause-value g c = λ s meant. tt

pub returns-clause-stays : goal.returns-clause-stays
returns-clause-stays g c = c.boxes.invariant.stays

pub returns-clause-fault : goal.returns-clause-fault
returns-clause-fault g c = tt

pub boxes-init : goal.boxes-init
boxes-init g c = grind arith
