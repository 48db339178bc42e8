use Rattle.std.proofs.Common.{arith}
use Rattle.sqltables.specs.Inside.{seen}
use Rattle.sqlite.specs.State.{HasCleanDisk}
use Rattle.sqltables.proofs.Ours.{ours_of, says_of}
use Rattle.sqltables.proofs.Texts.{insert_piece, insert_piece_command, insert_piece_is}
use Rattle.sqlchanges.proofs.PieceRows.{adds_piece}
use Rattle.sqlchanges.proofs.Ran.{ran_then}
use Rattle.sqlchanges.proofs.statements.insert_piece.Goals as goal

pub returns-clause-done : goal.returns-clause-done
returns-clause-done g c v tables after ours pends adds = ran_then c.run.result c.run.ensures.ran (λ clean run inside is_open.
    let old = seen g.T.Ledger.view c.args.tx.now in
    let new = seen g.T.Ledger.view c.run.new.tx in
    let early : HasCleanDisk old = omega (arith, c.run.ensures.rest.survives.clean) in
    let ran = rw (c.params-to_sql.ensures, c.params-to_sql-2.ensures, c.params-to_sql-3.ensures, c.params-to_sql-4.ensures) at run.executed in
    let it = pends early run.inside ran.1.was_open in
    adds_piece v (ours_of v ours) (says_of v ours insert_piece insert_piece_command insert_piece_is) old new run.count tables after
    (record { place = record { box = c.args.box_name.now; name = c.args.name.now }; at = c.args.part }) c.args.bytes.now it.schema it.means adds.0 adds.1 ran.0)

pub returns-clause-rest : goal.returns-clause-rest
returns-clause-rest g c = grind arith
