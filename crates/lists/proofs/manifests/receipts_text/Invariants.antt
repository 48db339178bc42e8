use Rattle.std.proofs.Common.{◌++◌, map, take}
use Rattle.std.specs.List.{AllByRecursion}
use Rattle.boxes.specs.Rows.{numbered_receipt}
use Rattle.lists.specs.Lists.{AreLines, IsClean}
use Rattle.lists.specs.Manifests.{HasMoment, IsReceiptLine}
use Rattle.lists.proofs.manifests.receipts_text.Given as goal

abbrev pub invariant-receipts : goal.invariant-receipts
invariant-receipts l = record {
  clean : IsClean l.writer;
  lines : AllByRecursion HasMoment (map numbered_receipt l.receipts)
      → AreLines IsReceiptLine (map numbered_receipt (take l.receipt-index l.receipts)) (l.writer.wtr.inner.items ++ l.writer.wtr.buf);
}
