use Rattle.std.proofs.Common.{◌≡◌, ◌+◌, subst, OnOk, ◌∙◌}
use Rattle.boxes.specs.State.{Place}
use Rattle.sqltables.specs.Inside.{seen}
use Rattle.sqltables.specs.Changes.{with_file, with_receipt, without_pieces}
use Rattle.sqltables.specs.Means.{Pends}
use Rattle.sqlchanges.proofs.Chained.{failed, goes_on_then, refused}
use Rattle.sqlchanges.proofs.changes.write_rows.Goals as goal

pub returns-clause-done : goal.returns-clause-done
returns-clause-done g c v tables at r ours pends free stands number box_is name_is size digest moment key =
    let place : Place = record { box = c.args.in_box.now; name = c.args.name.now } in
    let gone = without_pieces tables place in
    let listed = with_receipt gone at r in
    let number_is : c.in-Ok.number ≡ at + 1 = c.in-Ok.ensures.1 ∙ number in
    let cleared = c.in_ok-delete_pieces.ensures.done v tables ours pends in
    let noted = c.in_ok-add_receipt.ensures.done v gone at r ours cleared free number_is box_is name_is size digest moment key in
    subst (λ n. OnOk c.set_row.result (Pends v (seen g.T.Ledger.view c.set_row.new.tx) (with_file listed place n))) number_is (c.set_row.ensures.done v listed ours noted stands)

pub returns-in_err-delete_pieces-clause-rest : goal.returns-in_err-delete_pieces-clause-rest
returns-in_err-delete_pieces-clause-rest g c = failed c.from_residual.result c.delete_pieces.ensures.rest c.from_residual.ensures.0

pub returns-in_err-add_receipt-clause-rest : goal.returns-in_err-add_receipt-clause-rest
returns-in_err-add_receipt-clause-rest g c =
    let two = goes_on_then g.T.Ledger.view _ _ _ _ _ c.delete_pieces.ensures.rest c.add_receipt.ensures.rest in
    failed c.from_residual-in_err-add_receipt.result two c.from_residual-in_err-add_receipt.ensures.0

pub returns-clause-rest : goal.returns-clause-rest
returns-clause-rest g c =
    let two = goes_on_then g.T.Ledger.view _ _ _ _ _ c.delete_pieces.ensures.rest c.add_receipt.ensures.rest in
    goes_on_then g.T.Ledger.view _ _ _ _ _ two c.set_row.ensures.rest

pub returns-in_default-clause-rest : goal.returns-in_default-clause-rest
returns-in_default-clause-rest g c = refused c.args.tx.now

pub returns-in_default-clause-done : goal.returns-in_default-clause-done
returns-in_default-clause-done g c v tables at r ours pends free stands number box_is name_is size digest moment key = tt
