use Rattle.std.proofs.Common.{◌≡◌, ◌-◌, length}
use Rattle.sqltables.specs.Inside.{IsSameLedger, seen}
use Rattle.sqltables.proofs.Gathering.{Gathered}
use Rattle.sqlaudit.proofs.digests.find_bytes.Given as goal

abbrev pub invariant-loop-tx : goal.invariant-loop-tx
invariant-loop-tx g l =
    IsSameLedger g.T.Ledger.view l.fn.tx l.tx
    × Gathered (seen g.T.Ledger.view l.fn.tx) (seen g.T.Ledger.view l.tx) (record { box = l.in_box; name = l.name }) l.size l.bytes.items l.part

abbrev pub decreases-loop-tx : goal.decreases-loop-tx
decreases-loop-tx g l = l.size - length l.bytes.items
