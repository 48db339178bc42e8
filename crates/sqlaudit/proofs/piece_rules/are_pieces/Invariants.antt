use Rattle.std.proofs.Common.{ℕ, List, slice_get, take}
use Rattle.std.specs.Prelude.{Contains}
use Rattle.std.specs.FinMap.{FinMap}
use Rattle.boxes.specs.State.{place_cmp, Receipt}
use Rattle.sqlaudit.specs.declared.lines.PieceLine.{PieceLine}
use Rattle.sqlaudit.specs.Outlines.{IsPieceIn}
use Rattle.sqlaudit.specs.Sorting.{HoldsFiles, HoldsReceipts}
use Rattle.sqlaudit.proofs.piece_rules.are_pieces.Given as goal

abbrev pub invariant-loop-line : goal.invariant-loop-line
invariant-loop-line l = (rs : List Receipt) (m : FinMap place_cmp ℕ) → HoldsReceipts l.receipts rs → HoldsFiles l.files m
    → (line : PieceLine) → Contains (take l.line-index l.lines) line → IsPieceIn (slice_get rs) m line
