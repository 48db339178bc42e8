use Rattle.std.proofs.Common.{◌≡◌, ◌∙◌, sym, ap, subst}
use Rattle.std.specs.FinMap.{insert}
use Rattle.boxes.specs.State.{Settings, State}
use Rattle.boxes.proofs.CommandSteps.{box_closed_is}
use Rattle.shelf.specs.declared.shelf.Shelf.{Shelf}
use Rattle.shelf.specs.declared.shelf.ShelvedBox.{ShelvedBox}
use Rattle.shelf.specs.Shelves.{Holds, shelved_settings}
use Rattle.shelf.proofs.MapLemmas.{some_of}
use Rattle.shelf.proofs.ShelfLemmas.{holds_boxes}
use Rattle.shelf.proofs.shelf.Shelf.close_box.Goals as goal

pub returns-clause-made : goal.returns-clause-made
returns-clause-made c s after h obeyed =
    let k : Shelf = c.args.self.now in
    let name = c.args.name.now in
    let is = box_closed_is s name c.args.moment after obeyed.step in
    let b = some_of shelved_settings _ is.0 (sym (h.boxes.each name) ∙ is.1) in
    let closed : ShelvedBox = record b.0 { row = record b.0.row { closes = c.args.moment } } in
    let t = h.totals name b.0 b.1 in
    let held = holds_boxes k s c.set_closing.new.boxes name closed h (c.set_closing.ensures b.0 b.1) t in
    let same : ◌≡◌ {A = State} (record s { boxes = insert s.boxes name (shelved_settings closed) }) after
    = ap (λ (x : Settings). record s { boxes = insert s.boxes name (record x { closes = c.args.moment }) }) b.2 ∙ sym is.2 in
    subst (Holds (record k { boxes = c.set_closing.new.boxes })) same held
