use Rattle.std.proofs.Common.{◌≡◌, take, map}
use Rattle.boxes.specs.Rows.{numbered_receipt}
use Rattle.shelf.proofs.copies.copy_receipts.Given as goal

abbrev pub invariant-receipts : goal.invariant-receipts
invariant-receipts l = map numbered_receipt l.copies.items ≡ map numbered_receipt (take l.receipt-index l.receipts)
