use Rattle.std.proofs.Common.{◌∙◌, sym, ap, arith}
use Rattle.std.specs.Prelude.{slice_get}
use Rattle.boxes.specs.State.{place_cmp}
use Rattle.shelf.specs.Maps.{found}
use Rattle.shelf.specs.Shelves.{place_of}
use Rattle.shelf.proofs.FoundLemmas.{receipt_at}
use Rattle.shelf.proofs.shelf.Shelf.find_file_receipt.Goals as goal

pub returns-in-Ok-copy_receipt-clause-value : goal.returns-in-Ok-copy_receipt-clause-value
returns-in-Ok-copy_receipt-clause-value c s h sound =
    let k = c.args.self.now in
    let at = c.in-Some-numbered_of.ensures.there in
    let there = ap (found place_cmp place_of k.files.entries) (sym c.in-Ok.ensures) ∙ sym c.in-Some.ensures.value in
    receipt_at k s (record { box = c.args.in_box.now; name = c.args.name.now }) c.in-Some.stored.now c.in-Some-numbered_of.receipt.now at.0 c.in-Ok-copy_receipt.copy h there at.1
    (ap (λ l. slice_get l at.0) (sym c.deref.ensures.value) ∙ at.2) c.in-Ok-copy_receipt.ensures

pub returns-in-Ok-copy_receipt-clause-rest : goal.returns-in-Ok-copy_receipt-clause-rest
returns-in-Ok-copy_receipt-clause-rest c = grind arith

pub returns-in_default-get-clause-rest : goal.returns-in_default-get-clause-rest
returns-in_default-get-clause-rest c = grind arith

pub returns-in_default-get-clause-value : goal.returns-in_default-get-clause-value
returns-in_default-get-clause-value c = grind arith
