-- Receipts of files that version 1 allows, and their lines.
use Rattle.std.proofs.Common.{◌≡◌, ℕ, ◌≤◌, ◌≤ℤ◌, pos, List, Some, slice_get, arith, subst, sym}
use Rattle.std.proofs.lemmas.Int.{ints}
use Rattle.boxes.specs.State.{Receipt}
use Rattle.sqlaudit.specs.declared.lines.ReceiptLine.{ReceiptLine}
use Rattle.sqlaudit.specs.Outlines.{AreEntries, IsReceiptEntry}
use Rattle.sqlaudit.specs.Opened.{most_first_body, AreShortLines}

module _ (receipts : List Receipt) (lines : List ReceiptLine) (are : AreEntries IsReceiptEntry (slice_get receipts) lines) where
  pub short_lines : ((at : ℕ) (r : Receipt) → slice_get receipts at ≡ Some r → r.size ≤ most_first_body) → AreShortLines lines
  short_lines short line there =
      let e = are.each line there in
      let low : e.1.size ≤ 1048576 = short e.0 e.1 e.3 in
      let same : line.length ≡ pos e.1.size = e.2.length_is in
      subst (λ n. n ≤ℤ pos 1048576) (sym same) (omega (arith, ints, low))

  pub short_receipts : AreShortLines lines → (at : ℕ) (r : Receipt) → slice_get receipts at ≡ Some r → r.size ≤ most_first_body
  short_receipts short at r is =
      let e = are.all at r is in
      let low = short e.0 e.1 in
      let same : e.0.length ≡ pos r.size = e.2.length_is in
      let high : pos r.size ≤ℤ pos 1048576 = subst (λ n. n ≤ℤ pos 1048576) same low in
      omega (arith, ints, high)
