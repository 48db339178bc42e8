use Rattle.std.proofs.Common.{◌≡◌, ◌+◌, ◌-◌, ◌≤◌, List, length, slice_get, IsTrue}
use Rattle.std.specs.List.{AllByRecursion}
use Rattle.sqltables.specs.Inside.{IsSameLedger, seen}
use Rattle.sqlite.specs.State.{HasCleanDisk}
use Rattle.boxes.specs.State.{Receipt}
use Rattle.boxes.specs.Sound.{IsDigest}
use Rattle.sqltables.specs.Schema.{Version, IsVersion}
use Rattle.sqltables.specs.Tables.{Tables}
use Rattle.sqltables.specs.Means.{Pends}
use Rattle.sqlquestions.proofs.ManyQuestions.{Unmoved, Lists}
use Rattle.sqlquestions.proofs.questions.receipts.Given as goal

abbrev pub invariant-loop-tx : goal.invariant-loop-tx
invariant-loop-tx g l =
    (l.number ≡ l.from - 1 + length l.rows.items + 1) × (length l.rows.items ≤ l.most) × IsSameLedger g.T.Ledger.view l.fn.tx l.tx
    × Unmoved (seen g.T.Ledger.view l.fn.tx) (seen g.T.Ledger.view l.tx)
    × ((v : Version) (tables : Tables) (receipts : List Receipt) → IsVersion v → Pends v (seen g.T.Ledger.view l.fn.tx) tables → tables.receipt ≡ slice_get receipts → AllByRecursion (λ r. IsDigest r.digest) receipts
    → IsTrue (seen g.T.Ledger.view l.fn.tx).in_transaction → HasCleanDisk (seen g.T.Ledger.view l.tx) → Lists (l.from - 1) receipts l.rows.items)

abbrev pub decreases-loop-tx : goal.decreases-loop-tx
decreases-loop-tx g l = l.most - length l.rows.items
