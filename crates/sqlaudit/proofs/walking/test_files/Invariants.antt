use Rattle.std.proofs.Common.{◌≡◌, ◌-◌, length}
use Rattle.sqltables.specs.Inside.{IsSameLedger, seen}
use Rattle.sqlaudit.proofs.WalkedFiles.{Walked}
use Rattle.sqlaudit.proofs.walking.test_files.Given as goal

abbrev pub invariant-loop-at : goal.invariant-loop-at
invariant-loop-at g l =
    IsSameLedger g.T.Ledger.view l.fn.tx l.tx
    × Walked (seen g.T.Ledger.view l.fn.tx) (seen g.T.Ledger.view l.tx) l.receipts l.numbers l.at l.files l.sums

abbrev pub decreases-loop-at : goal.decreases-loop-at
decreases-loop-at g l = length l.numbers - l.at
