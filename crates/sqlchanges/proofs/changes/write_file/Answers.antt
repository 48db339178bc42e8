use Rattle.std.proofs.Common.{◌+◌, arith}
use Rattle.boxes.specs.State.{Place}
use Rattle.sqltables.specs.Tables.{Tables}
use Rattle.sqltables.specs.Changes.{with_file, with_receipt, without_pieces, with_bytes, NoPieces}
use Rattle.sqltables.proofs.Keys.{tells_places}
use Rattle.sqltables.specs.Staging.{held}
use Rattle.sqlchanges.proofs.Chained.{failed, goes_on_maybe, goes_on_then, refused}
use Rattle.sqlchanges.proofs.changes.write_file.Goals as goal

none_left : (tables : Tables) (place : Place) → NoPieces (without_pieces tables place) place
none_left tables place at = rw (tells_places.itself place)

pub returns-clause-done : goal.returns-clause-done
returns-clause-done g c v tables b at r ours pends free stands there number box_is name_is size digest moment key =
    let place : Place = record { box = c.args.in_box.now; name = c.args.name.now } in
    let row = with_file (with_receipt (without_pieces tables place) at r) place (at + 1) in
    let set = c.in_ok-write_rows.ensures.done v tables at r ours pends free stands number box_is name_is size digest moment key in
    let filled = c.in_ok-insert_pieces.ensures.done v row ours set (none_left tables place) in
    c.set_totals.ensures.done v (with_bytes row place (held c.args.bytes.now)) b ours filled there

pub returns-then-len-gt-MOST_BYTES-clause-rest : goal.returns-then-len-gt-MOST_BYTES-clause-rest
returns-then-len-gt-MOST_BYTES-clause-rest g c = refused c.args.tx.now

pub returns-then-len-gt-MOST_BYTES-clause-done : goal.returns-then-len-gt-MOST_BYTES-clause-done
returns-then-len-gt-MOST_BYTES-clause-done g c v tables b at r ours pends free stands there number box_is name_is size digest moment key = tt

pub returns-in_err-write_rows-clause-rest : goal.returns-in_err-write_rows-clause-rest
returns-in_err-write_rows-clause-rest g c = failed c.from_residual.result c.write_rows.ensures.rest c.from_residual.ensures.0

pub returns-in_err-insert_pieces-clause-rest : goal.returns-in_err-insert_pieces-clause-rest
returns-in_err-insert_pieces-clause-rest g c = failed c.from_residual-in_err-insert_pieces.result (goes_on_maybe c.in_ok-write_rows.ensures.rest c.insert_pieces.ensures.rest) c.from_residual-in_err-insert_pieces.ensures.0

pub returns-clause-rest : goal.returns-clause-rest
returns-clause-rest g c =
    let two = goes_on_maybe c.in_ok-write_rows.ensures.rest c.in_ok-insert_pieces.ensures.rest in
    goes_on_then g.T.Ledger.view _ _ _ _ _ two c.set_totals.ensures.rest

pub insert_pieces-requires : goal.insert_pieces-requires
insert_pieces-requires g c = grind arith
