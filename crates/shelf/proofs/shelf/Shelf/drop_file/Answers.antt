use Rattle.std.proofs.Common.{rules, ◌≡◌, ◌∙◌, None, Some, length, option_map, sym, ap, subst, arith}
use Rattle.std.specs.FinMap.{get, remove}
use Rattle.boxes.specs.State.{Place, place_cmp}
use Rattle.boxes.proofs.Lookups.{place_total, some_none}
use Rattle.boxes.proofs.FileTotals.{used_still, count_still}
use Rattle.boxes.proofs.CommandSteps.{file_dropped_is}
use Rattle.shelf.specs.declared.shelf.Shelf.{Shelf}
use Rattle.shelf.specs.Maps.{found, MapMeans}
use Rattle.shelf.specs.Shelves.{Holds, place_of, stored_file}
use Rattle.shelf.proofs.MapLemmas.{means-gone, sets_of}
use Rattle.shelf.proofs.ShelfLemmas.{holds_files, box_there, file_in_box, there_is}
use Rattle.shelf.proofs.shelf.Shelf.drop_file.Goals as goal
use Rattle.shelf.proofs.shelf.Shelf.drop_file.Goals.{in-Some, in_default-remove}

pub returns-clause-made : goal.returns-clause-made
returns-clause-made c s after h sound obeyed =
    let k : Shelf = c.args.self.now in
    let place : Place = record { box = c.args.in_box.now; name = c.args.name.now } in
    let key = c.in-Ok.place in
    let is = file_dropped_is s place after obeyed.step in
    let f = there_is (get s.files place) obeyed.possible in
    let sets = sets_of place_cmp place_of place_total k.files c.remove.new.self (place_of key) None c.remove.ensures.updates in
    let means = subst (λ (p : Place). MapMeans place_cmp place_of stored_file c.remove.new.self.entries (remove s.files p)) c.in-Ok.ensures
    (means-gone place_cmp place_of place_total stored_file k.files.entries c.remove.new.self.entries s.files (place_of key) h.files sets) in
    let b = box_there k s place.box h (file_in_box s place f.0 sound f.1) in
    let at = ap (found place_cmp place_of k.files.entries) c.in-Ok.ensures in
    elim c.match-remove.branch [
      | in-Some w ↦
          let stored = w.in-Some.stored in
          let there : get s.files place ≡ Some (stored_file stored) = h.files.each place ∙ ap (option_map stored_file) (sym (w.in-Some.ensures.value ∙ at)) in
          let long : length stored.bytes.items ≡ w.len.result = search rules in
          let are = w.take_out-totals.ensures s place (stored_file stored) (c.totals_of-totals.ensures s h sound) there long in
          let held = holds_files k s c.remove.new.self w.set_totals.new.boxes k.receipts (remove s.files place) s.receipts place.box b.0 w.take_out-totals.result
          h means h.receipts b.1 (w.set_totals.ensures b.0 b.1) are (λ q far. (used_still s place (stored_file stored) there q far, count_still s place (stored_file stored) there q far)) in
          rw w.self-is (subst (Holds (record k { files = c.remove.new.self; boxes = w.set_totals.new.boxes })) (sym is) held)
      | in_default-remove w ↦
          let none : found place_cmp place_of k.files.entries place ≡ None = sym (c.remove.ensures.value ∙ at) ∙ w.in_default-remove.is in
          absurd (some_none f.0 (sym f.1 ∙ h.files.each place ∙ ap (option_map stored_file) none))
    ]

pub returns-clause-count : goal.returns-clause-count
returns-clause-count c = grind arith

pub returns-clause-staged : goal.returns-clause-staged
returns-clause-staged c = grind arith
