use Rattle.std.proofs.Common.{take}
use Rattle.std.specs.Prelude.{Contains}
use Rattle.std.specs.FinMap.{FinMap}
use Rattle.sigtext.specs.Bytes.{bytes_cmp}
use Rattle.boxes.specs.State.{Key}
use Rattle.sqltables.specs.Tables.{Box}
use Rattle.sqlaudit.specs.declared.lines.LimitLine.{LimitLine}
use Rattle.sqlaudit.specs.Outlines.{IsLimitRule}
use Rattle.sqlaudit.specs.Sorting.{HoldsBoxes, HoldsKeys, limit_in}
use Rattle.sqlaudit.proofs.limit_rules.are_limits.Given as goal

abbrev pub invariant-loop-line : goal.invariant-loop-line
invariant-loop-line l = (ks : FinMap bytes_cmp Key) (bs : FinMap bytes_cmp Box) → HoldsKeys l.keys ks → HoldsBoxes l.boxes bs
    → (line : LimitLine) → Contains (take l.line-index l.lines) line → IsLimitRule ks bs (limit_in line)
