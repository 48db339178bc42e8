use Rattle.std.proofs.Common.{◌≡◌, ◌*◌, ◌-◌, length}
use Rattle.sqltables.specs.Inside.{IsSameLedger, seen}
use Rattle.sqltables.proofs.Building.{Built}
use Rattle.sqltables.specs.Staging.{held}
use Rattle.sqlchanges.proofs.statements.insert_pieces.Given as goal

abbrev pub invariant-loop-piece : goal.invariant-loop-piece
invariant-loop-piece g l =
    IsSameLedger g.T.Ledger.view l.fn.tx l.tx
    × Built (seen g.T.Ledger.view l.fn.tx) (seen g.T.Ledger.view l.tx) (record { box = l.box_name; name = l.name }) (held l.bytes) l.part

abbrev pub decreases-loop-piece : goal.decreases-loop-piece
decreases-loop-piece g l = length (held l.bytes) - 65536 * l.part
