use Rattle.std.proofs.Common.{◌∙◌, sym, ap}
use Rattle.std.specs.Prelude.{option_map}
use Rattle.boxes.proofs.NoBox.{none_used, none_counted}
use Rattle.shelf.specs.Shelves.{shelved_settings}
use Rattle.shelf.proofs.shelf.Shelf.totals_of.Goals as goal

pub returns-in-Some : goal.returns-in-Some
returns-in-Some c s h sound = h.totals c.args.in_box.now c.in-Some.shelved.now (sym c.in-Some.ensures.value)

pub returns-in-None : goal.returns-in-None
returns-in-None c s h sound =
    let none = h.boxes.each c.args.in_box.now ∙ ap (option_map shelved_settings) (sym c.in-None.ensures.value) in
    record { used = sym (none_used s c.args.in_box.now sound none); count = sym (none_counted s c.args.in_box.now sound none) }
