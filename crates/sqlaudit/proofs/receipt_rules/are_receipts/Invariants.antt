use Rattle.std.specs.FinMap.{FinMap}
use Rattle.sigtext.specs.Bytes.{bytes_cmp}
use Rattle.boxes.specs.State.{Key}
use Rattle.sqltables.specs.Tables.{Box}
use Rattle.sqlaudit.specs.Sorting.{HoldsKeys, HoldsBoxes}
use Rattle.sqlaudit.proofs.ReceiptOrder.{StandUpTo}
use Rattle.sqlaudit.proofs.receipt_rules.are_receipts.Given as goal

abbrev pub invariant-loop-at : goal.invariant-loop-at
invariant-loop-at l = (ks : FinMap bytes_cmp Key) (bs : FinMap bytes_cmp Box) → HoldsKeys l.keys ks → HoldsBoxes l.boxes bs → StandUpTo ks bs l.lines l.at
