use Rattle.std.proofs.Common.{◌∙◌, Option, sym, subst, arith}
use Rattle.boxes.specs.declared.rows.ReceiptRow.{ReceiptRow}
use Rattle.boxes.specs.Views.{IsReceiptAt}
use Rattle.office.proofs.Staged.{its_receipt, digests_same}
use Rattle.office.proofs.requests.putting.may_stand.Goals as goal

pub returns-then-receipt-body : goal.returns-then-receipt-body
returns-then-receipt-body c s u sound at long digest stands =
    let x = its_receipt s u c.in-Some.receipt sound (subst (λ (o : Option ReceiptRow). IsReceiptAt s u.place o) c.in-Some.is at) stands in
    c.eq.ensures ∙ digests_same _ _ (x.1 ∙ sym digest)

pub returns-else-receipt-body : goal.returns-else-receipt-body
returns-else-receipt-body c s u sound at long digest stands =
    let x = its_receipt s u c.in-Some.receipt sound (subst (λ (o : Option ReceiptRow). IsReceiptAt s u.place o) c.in-Some.is at) stands in
    absurd (c.if-receipt-body.false (x.0 ∙ sym long))

pub returns-in-None : goal.returns-in-None
returns-in-None c = grind arith
