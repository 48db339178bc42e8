use Rattle.std.proofs.Common.{◌∙◌, sym, ap, arith}
use Rattle.boxes.specs.State.{place_cmp}
use Rattle.shelf.specs.Maps.{found}
use Rattle.shelf.specs.Shelves.{place_of}
use Rattle.shelf.proofs.FoundLemmas.{bytes_found, no_bytes_found}
use Rattle.shelf.proofs.shelf.Shelf.has_staged.Goals as goal

pub returns-in_default-get-clause-value : goal.returns-in_default-get-clause-value
returns-in_default-get-clause-value c s h =
    let k = c.args.self.now in
    let there = ap (found place_cmp place_of k.files.entries) (sym c.in-Ok.ensures) ∙ sym c.in_default-get.ensures.value in
    no_bytes_found k s (record { box = c.args.in_box.now; name = c.args.name.now }) k.staged.items h there

pub returns-clause-value : goal.returns-clause-value
returns-clause-value c s h =
    let k = c.args.self.now in
    let there = ap (found place_cmp place_of k.files.entries) (sym c.in-Ok.ensures) ∙ sym c.in-Some.ensures.value in
    bytes_found k s (record { box = c.args.in_box.now; name = c.args.name.now }) c.in-Some.stored.now k.staged.items c.as_slice.result.now c.as_slice-2.result.now c.eq.result h there
    c.as_slice.ensures.value c.as_slice-2.ensures.value c.eq.ensures

pub returns-clause-rest : goal.returns-clause-rest
returns-clause-rest c = grind arith

pub returns-in_default-get-clause-rest : goal.returns-in_default-get-clause-rest
returns-in_default-get-clause-rest c = grind arith
