use Rattle.std.proofs.Common.{◌≡◌, take}
use Rattle.sqltables.specs.Inside.{IsSameLedger, seen}
use Rattle.sqlaudit.proofs.Digested.{Looked}
use Rattle.sqlaudit.proofs.digests.have_bytes.Given as goal

abbrev pub invariant-loop-file : goal.invariant-loop-file
invariant-loop-file g l =
    IsSameLedger g.T.Ledger.view l.fn.tx l.tx
    × Looked (seen g.T.Ledger.view l.fn.tx) (seen g.T.Ledger.view l.tx) l.receipts (take l.file-index l.files)
