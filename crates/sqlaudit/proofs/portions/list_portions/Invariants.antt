use Rattle.std.proofs.Common.{◌≡◌, ◌-◌, length}
use Rattle.sqltables.specs.Inside.{IsSameLedger, seen}
use Rattle.sqlaudit.proofs.PortionRows.{Portioned}
use Rattle.sqlaudit.proofs.portions.list_portions.Given as goal

abbrev pub invariant-loop-at : goal.invariant-loop-at
invariant-loop-at g l =
    IsSameLedger g.T.Ledger.view l.fn.tx l.tx
    × Portioned g.L.Line.reads l.sql (seen g.T.Ledger.view l.fn.tx) (seen g.T.Ledger.view l.tx) l.numbers l.at l.lines.items

abbrev pub decreases-loop-at : goal.decreases-loop-at
decreases-loop-at g l = length l.numbers - l.at
