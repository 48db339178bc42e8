use Rattle.std.proofs.Common.{◌≡◌, ◌∙◌, ◌+◌, pos, sym, rules, arith}
use Rattle.boxes.specs.State.{Place}
use Rattle.sqlaudit.specs.Sorting.{spot_of}
use Rattle.sqlaudit.proofs.FileEntries.{filed}
use Rattle.sqlaudit.proofs.ReceiptEntries.{one_pos}
use Rattle.sqlaudit.proofs.ReceiptOrder.{receipt_there}
use Rattle.sqlaudit.proofs.file_rules.file_of.Goals as goal

pub returns : goal.returns
returns c rs h =
    let number : c.args.line.now.receipt ≡ pos (c.in_ok-at.at + 1) = search rules in
    let it = receipt_there c.args.receipts.now rs h c.in_ok-at.at c.in_ok-receipt.receipt.now c.in_ok-receipt.ensures in
    let spot : Place = spot_of (c.deref.result, c.deref-2.result) in
    let box : c.in_ok-receipt.receipt.now.in_box.items ≡ spot.box = search rules in
    let name : c.in_ok-receipt.receipt.now.name.items ≡ spot.name = search rules in
    let in_box : c.args.line.now.in_box.items ≡ spot.box = search rules in
    let called : c.args.line.now.name.items ≡ spot.name = search rules in
    let all = filed rs c.args.line.now c.in_ok-at.at it.0 it.1 number spot (sym it.2.box_is ∙ box) (sym it.2.name_is ∙ name) in_box called in
    (all.0, one_pos _ _ (sym c.in_ok-length_in.ensures ∙ it.2.length_is) ∙ all.1)

pub overflow_add-result : goal.overflow_add-result
overflow_add-result c = grind arith

pub returns-in_err-at : goal.returns-in_err-at
returns-in_err-at c = grind arith

pub returns-in_err-length_in : goal.returns-in_err-length_in
returns-in_err-length_in c = grind arith

pub returns-in_err-receipt : goal.returns-in_err-receipt
returns-in_err-receipt c = grind arith
