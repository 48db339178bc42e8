use Rattle.std.proofs.Common.{pos, sym, ap, ◌∙◌, arith}
use Rattle.sqlchanges.proofs.Numbers.{handed}
use Rattle.sqlchanges.proofs.Chained.{gave_up, refused}
use Rattle.sqlchanges.proofs.changes.add_receipt.Goals as goal

pub returns-clause-done : goal.returns-clause-done
returns-clause-done g c v tables at r ours pends free number box_is name_is size digest moment key =
    c.insert_receipt.ensures.done v tables at r ours pends free number box_is name_is (size ∙ sym c.in-Ok-Ok.ensures.1) digest (ap pos moment ∙ handed c.in-Ok-Ok.moment c.args.file.now.moment c.in-Ok-Ok.ensures'.0 c.in-Ok-Ok.ensures'.1) (key ∙ sym c.in_ok-key.ensures)

pub returns-in_err-key-clause-rest : goal.returns-in_err-key-clause-rest
returns-in_err-key-clause-rest g c = gave_up c.args.tx.now c.from_residual.result c.from_residual.ensures.0

pub returns-in_default-clause-rest : goal.returns-in_default-clause-rest
returns-in_default-clause-rest g c = refused c.args.tx.now

pub returns-in_default-2-clause-rest : goal.returns-in_default-2-clause-rest
returns-in_default-2-clause-rest g c = refused c.args.tx.now

pub returns-in_default-clause-done : goal.returns-in_default-clause-done
returns-in_default-clause-done g c v tables at r ours pends free number box_is name_is size digest moment key = tt

pub returns-in_default-2-clause-done : goal.returns-in_default-2-clause-done
returns-in_default-2-clause-done g c v tables at r ours pends free number box_is name_is size digest moment key = tt

pub returns-clause-rest : goal.returns-clause-rest
returns-clause-rest g c = c.insert_receipt.ensures.rest

pub insert_receipt-requires-text-key : goal.insert_receipt-requires-text-key
insert_receipt-requires-text-key g c = grind arith
