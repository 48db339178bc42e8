use Rattle.std.proofs.Common.{◌++◌, List, take}
use Rattle.boxes.specs.State.{Receipt}
use Rattle.sqlaudit.specs.declared.lines.FileLine.{FileLine}
use Rattle.sqlaudit.specs.Sorting.{AreFiled, HoldsReceipts}
use Rattle.sqlaudit.proofs.file_rules.add_lines.Given as goal

abbrev pub invariant-loop-line : goal.invariant-loop-line
invariant-loop-line l = (rs : List Receipt) (before : List FileLine) → HoldsReceipts l.receipts rs → AreFiled rs before l.fn.files l.fn.sums
    → AreFiled rs (before ++ take l.line-index l.lines) l.files l.sums
