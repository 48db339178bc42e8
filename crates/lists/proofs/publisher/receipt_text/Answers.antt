use Rattle.std.proofs.Common.{◌≡◌, ℕ, [], ◌∷◌, IfOk, ap, subst, sym}
use Rattle.boxes.specs.State.{Receipt}
use Rattle.boxes.specs.Sound.{IsMoment}
use Rattle.lists.specs.Lists.{AreLines}
use Rattle.lists.specs.Manifests.{IsReceiptLine}
use Rattle.lists.proofs.publisher.receipt_text.Goals as goal

pub returns-in-Ok : goal.returns-in-Ok
returns-in-Ok c = λ moment.
    let is = c.in-Ok.ensures in
    let same : c.in-Ok.receipt.moment ≡ c.args.file.now.moment = ap (λ (r : ℕ × Receipt). r.1.moment) is in
    subst (λ (r : ℕ × Receipt). IfOk c.receipts_text.result (λ text. AreLines IsReceiptLine (r ∷ []) text.items)) is (c.receipts_text.ensures.lines (subst IsMoment (sym same) moment, tt))
