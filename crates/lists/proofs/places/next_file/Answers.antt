use Rattle.std.proofs.Common.{Some, List, ℕ, option_map, sym, subst}
use Rattle.std.proofs.lemmas.Result.{IfOk-weaker}
use Rattle.boxes.specs.State.{place_cmp}
use Rattle.boxes.specs.Next.{IsFile, IsNext}
use Rattle.lists.specs.Asking.{stays_err, stays_joined, stays_ok}
use Rattle.lists.specs.Places.{place_in}
use Rattle.lists.proofs.NextFiles.{next_in_box, next_past}
use Rattle.lists.proofs.places.next_file.Goals as goal

pub returns-in-Ok-clause-value : goal.returns-in-Ok-clause-value
returns-in-Ok-clause-value g c = λ s (means, sound, honest).
    let next = rw c.in-Ok-Some.field-0-is at c.in-Ok-Some.ensures.value s means sound honest in
    subst (λ (b : List ℕ). IsNext place_cmp (IsFile s) (record { box = c.args.in_box.now; name = c.args.name.now }) (Some (record { box = b; name = c.in-Ok-Some.next.items })))
    (sym c.in-Ok.ensures.items) (next_in_box s c.args.in_box.now c.args.name.now c.in-Ok-Some.next.items next)

pub returns-in-Ok-None-clause-value : goal.returns-in-Ok-None-clause-value
returns-in-Ok-None-clause-value g c = λ s (means, sound, honest).
    let asked = c.file_past.ensures.stays.honest honest in
    let none = rw c.in-Ok-None.field-0-is at c.in-Ok-None.ensures.value s means sound asked in
    let past = c.file_past.ensures.value s (c.file_after.ensures.rest.same s means, sound, honest) in
    IfOk-weaker c.file_past.result _ _ (λ found first. next_past s c.args.in_box.now c.args.name.now (option_map place_in found) none first) past

pub returns-in-Ok-clause-stays : goal.returns-in-Ok-clause-stays
returns-in-Ok-clause-stays g c = stays_ok _ _ _ c.in-Ok-Some.ensures.rest

pub returns-in-Ok-clause-fault : goal.returns-in-Ok-clause-fault
returns-in-Ok-clause-fault g c = tt

pub returns-in-Ok-None-clause-stays : goal.returns-in-Ok-None-clause-stays
returns-in-Ok-None-clause-stays g c = stays_joined _ _ _ _ (stays_ok _ _ _ c.in-Ok-None.ensures.rest) c.file_past.ensures.stays

pub returns-in-Ok-None-clause-fault : goal.returns-in-Ok-None-clause-fault
returns-in-Ok-None-clause-fault g c = c.file_past.ensures.fault

pub returns-in-Err-from_slice-clause-stays : goal.returns-in-Err-from_slice-clause-stays
returns-in-Err-from_slice-clause-stays g c = stays_ok _ _ _ c.in-Ok-Some.ensures.rest

pub returns-in-Err-clause-stays : goal.returns-in-Err-clause-stays
returns-in-Err-clause-stays g c = stays_err _ _ _ c.in-Err.ensures.rest
