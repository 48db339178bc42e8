use Rattle.std.proofs.Common.{List, ℕ, Option, Some, None, Vec, Global, sym, subst, arith}
use Rattle.sigtext.specs.Bytes.{bytes_cmp}
use Rattle.boxes.specs.State.{place_cmp}
use Rattle.lists.specs.Asking.{stays_err, stays_ok}
use Rattle.boxes.specs.Next.{IsFileIn, IsNext, text_in}
use Rattle.lists.specs.Exports.{files_in, IsAmong}
use Rattle.lists.proofs.BoxFiles.{next_of_box}
use Rattle.lists.proofs.exporting.next_of_box.Goals as goal

pub returns-in-Ok-clause-next : goal.returns-in-Ok-clause-next
returns-in-Ok-clause-next g c = λ s (means, sound, honest).
    let box = c.args.in_box.now in
    let name = c.args.name.now in
    let told = subst (λ (o : Option (Vec ℕ Global)). IsNext bytes_cmp (IsFileIn s c.args.in_box.now) c.args.name.now (text_in o)) c.in-Ok-Some.field-0-is (c.in-Ok-Some.ensures.value s means sound honest) in
    subst (λ (b : List ℕ). IsNext place_cmp (IsAmong (files_in (Some c.args.in_box.now) s)) (record { box = c.args.in_box.now; name = c.args.name.now }) (Some (record { box = b; name = c.in-Ok-Some.next.items })))
    (sym c.in-Ok.ensures.items) (next_of_box s box name (Some c.in-Ok-Some.next.items) told)

pub returns-in-Ok-None-clause-next : goal.returns-in-Ok-None-clause-next
returns-in-Ok-None-clause-next g c = λ s (means, sound, honest).
    let told = subst (λ (o : Option (Vec ℕ Global)). IsNext bytes_cmp (IsFileIn s c.args.in_box.now) c.args.name.now (text_in o)) c.in-Ok-None.field-0-is (c.in-Ok-None.ensures.value s means sound honest) in
    next_of_box s c.args.in_box.now c.args.name.now None told

pub returns-in-Ok-clause-stays : goal.returns-in-Ok-clause-stays
returns-in-Ok-clause-stays g c = stays_ok _ _ _ c.in-Ok-Some.ensures.rest

pub returns-in-Err-from_slice-clause-stays : goal.returns-in-Err-from_slice-clause-stays
returns-in-Err-from_slice-clause-stays g c = stays_ok _ _ _ c.in-Ok-Some.ensures.rest

pub returns-in-Ok-None-clause-stays : goal.returns-in-Ok-None-clause-stays
returns-in-Ok-None-clause-stays g c = stays_ok _ _ _ c.in-Ok-None.ensures.rest

pub returns-in-Err-clause-stays : goal.returns-in-Err-clause-stays
returns-in-Err-clause-stays g c = stays_err _ _ _ c.in-Err.ensures.rest

pub returns-in-Ok-clause-inside : goal.returns-in-Ok-clause-inside
returns-in-Ok-clause-inside g c = grind arith
