use Rattle.std.proofs.Common.{◌∙◌, map, ap, subst}
use Rattle.lists.specs.Asking.{stays_err, stays_joined, stays_ok, stays_unasked}
use Rattle.lists.proofs.ReceiptLines.{map_push}
use Rattle.lists.specs.Keys.{IsLast}
use Rattle.lists.proofs.LimitedBoxes.{told_all, told_first, told_next}
use Rattle.lists.proofs.key_list.boxes_of.Goals as goal

pub boxes-init : goal.boxes-init
boxes-init g c = record {
  stays = stays_unasked _;
  told = λ s (means, sound, honest) last is. told_first s c.args.id.now last _ sound (ap (map (λ b. b.items)) c.new-boxes.ensures.items) is;
}

pub returns-in-Ok-None-clause-value : goal.returns-in-Ok-None-clause-value
returns-in-Ok-None-clause-value g c = λ s (means, sound, honest).
    let boxes = map (λ b. b.items) c.boxes.boxes.items in
    let last = subst (λ ts. IsLast (map (λ b. b.items) ts) c.last_of.result.now) c.deref.ensures.value c.last_of.ensures in
    let told = c.boxes.invariant.told s (means, sound, c.limit_after.ensures.rest.honest honest) c.last_of.result.now last in
    told_all s c.args.id.now c.last_of.result.now boxes told
    (rw c.in-Ok-None.field-0-is at c.in-Ok-None.ensures.value s (c.boxes.invariant.stays.same s means) sound honest)

pub boxes-preserved : goal.boxes-preserved
boxes-preserved g c = record {
  stays = stays_joined _ _ _ _ c.boxes.invariant.stays (stays_ok _ _ _ c.in-Ok-Some.ensures.rest);
  told = λ s (means, sound, honest) last is.
      let boxes = map (λ b. b.items) c.boxes.boxes.items in
      let before = subst (λ ts. IsLast (map (λ b. b.items) ts) c.last_of.result.now) c.deref.ensures.value c.last_of.ensures in
      let told = c.boxes.invariant.told s (means, sound, c.limit_after.ensures.rest.honest honest) c.last_of.result.now before in
      let next = rw c.in-Ok-Some.field-0-is at c.in-Ok-Some.ensures.value s (c.boxes.invariant.stays.same s means) sound honest in
      told_next s c.args.id.now c.last_of.result.now c.in-Ok-Some.next.items last boxes _ told next
      (ap (map (λ b. b.items)) c.in-Ok.ensures.items ∙ map_push (λ b. b.items) c.boxes.boxes.items c.in-Ok-Some.next) is;
}

pub returns-in-Ok-None-clause-stays : goal.returns-in-Ok-None-clause-stays
returns-in-Ok-None-clause-stays g c = stays_joined _ _ _ _ c.boxes.invariant.stays (stays_ok _ _ _ c.in-Ok-None.ensures.rest)

pub returns-in-Ok-None-clause-fault : goal.returns-in-Ok-None-clause-fault
returns-in-Ok-None-clause-fault g c = tt

pub returns-in-Err-clause-value : goal.returns-in-Err-clause-value
returns-in-Err-clause-value g c = λ s meant. tt

pub returns-in-Err-clause-stays : goal.returns-in-Err-clause-stays
returns-in-Err-clause-stays g c = stays_joined _ _ _ _ c.boxes.invariant.stays (stays_err _ _ _ c.in-Err.ensures.rest)

pub returns-in-Err-clause-fault : goal.returns-in-Err-clause-fault
returns-in-Err-clause-fault g c = tt

pub returns-in_default-clause-value : goal.returns-in_default-clause-value
returns-in_default-clause-value g c = λ s meant. tt

pub returns-in_default-clause-stays : goal.returns-in_default-clause-stays
returns-in_default-clause-stays g c = stays_joined _ _ _ _ c.boxes.invariant.stays (stays_ok _ _ _ c.in-Ok-Some.ensures.rest)

pub returns-in_default-clause-fault : goal.returns-in_default-clause-fault
returns-in_default-clause-fault g c = tt

pub returns-clause-value : goal.returns-clause-value
returns-clause-value g c = λ s meant. tt

pub returns-clause-stays : goal.returns-clause-stays
returns-clause-stays g c = c.boxes.invariant.stays

pub returns-clause-fault : goal.returns-clause-fault
returns-clause-fault g c = tt
