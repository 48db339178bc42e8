use Rattle.std.proofs.Common.{◌∙◌, ◌-◌, ℕ, List, map, take, drop, sym, ap}
use Rattle.std.proofs.lemmas.List.{drop-map, take-map}
use Rattle.boxes.specs.declared.rows.ReceiptRow.{ReceiptRow}
use Rattle.boxes.specs.State.{Receipt}
use Rattle.boxes.specs.Rows.{numbered_receipt}
use Rattle.shelf.proofs.shelf.Shelf.find_receipts.Goals as goal

pub returns-in-Ok-clause-value : goal.returns-in-Ok-clause-value
returns-in-Ok-clause-value c s h =
    let from = c.args.from in
    let most = c.args.most in
    let kept = c.args.self.now.receipts.items in
    c.in-Ok.ensures
    ∙ ap (map numbered_receipt) (c.stretch.ensures ∙ ap (λ (l : List ReceiptRow). take most (drop (from - 1) l)) c.deref.ensures.value)
    ∙ sym (take-map numbered_receipt most (drop (from - 1) kept))
    ∙ ap (take most) (sym (drop-map numbered_receipt (from - 1) kept))
    ∙ ap (λ (l : List (ℕ × Receipt)). take most (drop (from - 1) l)) h.receipts
