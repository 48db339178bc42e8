use Rattle.std.proofs.Common.{◌≡◌, ◌∙◌, ℕ, List, None, Some, sym, ap, subst}
use Rattle.std.specs.FinMap.{get, insert}
use Rattle.sigtext.specs.Bytes.{bytes_cmp}
use Rattle.boxes.specs.declared.totals.Totals.{Totals}
use Rattle.boxes.specs.State.{Settings, State}
use Rattle.boxes.specs.Rows.{settings_of}
use Rattle.boxes.specs.Views.{AreTotals}
use Rattle.boxes.proofs.Lookups.{bytes_total}
use Rattle.boxes.proofs.NoBox.{none_used, none_counted}
use Rattle.boxes.proofs.CommandSteps.{box_added_is}
use Rattle.shelf.specs.declared.shelf.Shelf.{Shelf}
use Rattle.shelf.specs.Shelves.{Holds, bytes_of, shelved_settings}
use Rattle.shelf.proofs.MapLemmas.{is_none_is, sets_of}
use Rattle.shelf.proofs.ShelfLemmas.{holds_boxes, same_boxes}
use Rattle.shelf.proofs.shelf.Shelf.add_box.Goals as goal

pub returns-in-Ok-insert-clause-made : goal.returns-in-Ok-insert-clause-made
returns-in-Ok-insert-clause-made c s after h sound obeyed =
    let k : Shelf = c.args.self.now in
    let name = c.in-Ok.name.items in
    let b = c.in-Ok.shelved in
    let made = c.in-Ok.ensures in
    let none : get s.boxes name ≡ None = ap (get s.boxes) made.0 ∙ is_none_is _ obeyed.possible in
    let used_is = ap (λ (t : Totals). t.used) made.2 in
    let count_is = ap (λ (t : Totals). t.count) made.2 in
    let are : AreTotals s name b.totals = record { used = used_is ∙ sym (none_used s name sound none); count = count_is ∙ sym (none_counted s name sound none) } in
    let held = holds_boxes k s c.insert.new.self name b h (sets_of bytes_cmp bytes_of bytes_total k.boxes c.insert.new.self name (Some b) c.in-Ok-insert.ensures.updates) are in
    let same : ◌≡◌ {A = State} (record s { boxes = insert s.boxes name (shelved_settings b) }) after
    = ap (λ (i : List ℕ). record s { boxes = insert s.boxes i (shelved_settings b) }) made.0 ∙ ap (λ (x : Settings). record s { boxes = insert s.boxes c.args.name.now x }) made.1
    ∙ sym (box_added_is s c.args.name.now (settings_of c.args.row.now) after obeyed.step) in
    subst (Holds (record k { boxes = c.insert.new.self })) same held

pub returns-clause-same : goal.returns-clause-same
returns-clause-same c s h = c.count-in-Err.ensures.same s (same_boxes c.args.self.now s c.insert.new.self h c.in-Err.ensures.err)
