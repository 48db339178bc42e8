use Rattle.std.proofs.Common.{◌≡◌, ◌-◌, length}
use Rattle.sqltables.specs.Inside.{IsSameLedger, seen}
use Rattle.sqltables.proofs.Gathering.{Gathered}
use Rattle.sqltables.proofs.pieces.read_file.Given as goal

abbrev pub invariant-loop-bytes : goal.invariant-loop-bytes
invariant-loop-bytes g l =
    IsSameLedger g.T.Ledger.view l.fn.tx l.tx
    × Gathered (seen g.T.Ledger.view l.fn.tx) (seen g.T.Ledger.view l.tx) (record { box = l.in_box; name = l.name }) l.size l.bytes.items l.part

abbrev pub decreases-loop-bytes : goal.decreases-loop-bytes
decreases-loop-bytes g l = l.size - length l.bytes.items
