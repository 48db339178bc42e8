use Rattle.boxes.specs.State.{Place}
use Rattle.sqltables.specs.Changes.{without_file, without_pieces}
use Rattle.sqlchanges.proofs.Chained.{failed, goes_on_then}
use Rattle.sqlchanges.proofs.changes.take_rows.Goals as goal

pub returns-clause-done : goal.returns-clause-done
returns-clause-done g c v tables b ours pends there =
    let place : Place = record { box = c.args.in_box.now; name = c.args.name.now } in
    let gone = without_pieces tables place in
    let cleared = c.in_ok-delete_pieces.ensures.done v tables ours pends in
    let dropped = c.in_ok-delete_file.ensures.done v gone ours cleared in
    c.set_totals.ensures.done v (without_file gone place) b ours dropped there

pub returns-in_err-delete_pieces-clause-rest : goal.returns-in_err-delete_pieces-clause-rest
returns-in_err-delete_pieces-clause-rest g c = failed c.from_residual.result c.delete_pieces.ensures.rest c.from_residual.ensures.0

pub returns-in_err-delete_file-clause-rest : goal.returns-in_err-delete_file-clause-rest
returns-in_err-delete_file-clause-rest g c =
    let two = goes_on_then g.T.Ledger.view _ _ _ _ _ c.delete_pieces.ensures.rest c.delete_file.ensures.rest in
    failed c.from_residual-in_err-delete_file.result two c.from_residual-in_err-delete_file.ensures.0

pub returns-clause-rest : goal.returns-clause-rest
returns-clause-rest g c =
    let two = goes_on_then g.T.Ledger.view _ _ _ _ _ c.delete_pieces.ensures.rest c.delete_file.ensures.rest in
    goes_on_then g.T.Ledger.view _ _ _ _ _ two c.set_totals.ensures.rest
