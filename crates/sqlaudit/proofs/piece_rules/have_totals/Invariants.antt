use Rattle.std.proofs.Common.{ℕ, List, take}
use Rattle.std.specs.Prelude.{Contains}
use Rattle.std.specs.FinMap.{FinMap}
use Rattle.boxes.specs.State.{place_cmp, Receipt}
use Rattle.sqlaudit.specs.declared.lines.BoxLine.{BoxLine}
use Rattle.sqlaudit.specs.Sorting.{AreSums, HasTotals}
use Rattle.sqlaudit.proofs.piece_rules.have_totals.Given as goal

abbrev pub invariant-loop-line : goal.invariant-loop-line
invariant-loop-line l = (rs : List Receipt) (m : FinMap place_cmp ℕ) → AreSums rs m l.sums.entries
    → (line : BoxLine) → Contains (take l.line-index l.lines) line → HasTotals rs m line
