use Rattle.std.proofs.Common.{Some, sym, ap, ◌∙◌}
use Rattle.boxes.specs.declared.rows.ReceiptRow.{ReceiptRow}
use Rattle.sqltables.specs.Questions.{shown_receipt}
use Rattle.sqltables.proofs.Asked.{none_there, some_there, none_is_some, some_is_some}
use Rattle.sqltables.proofs.Onward.{failed, succeeded}
use Rattle.sqlquestions.proofs.questions.receipt.Goals as goal

pub returns-in_default-clause-found : goal.returns-in_default-clause-found
returns-in_default-clause-found g c v tables at ours pends number good inside clean =
    let found = c.in_ok-row.ensures.found v tables at ours pends number inside clean in
    (sym (none_there shown_receipt (tables.receipt at) (sym c.in_default.is ∙ found)), λ r some. absurd (none_is_some r some))

pub returns-clause-found : goal.returns-clause-found
returns-clause-found g c v tables at ours pends number good inside clean =
    let found = c.in_ok-row.ensures.found v tables at ours pends number inside clean in
    let it = some_there shown_receipt (tables.receipt at) c.in-Some.row (sym c.in-Some.is ∙ found) in
    let read = c.in_ok-read_receipt.ensures it.0 it.1 in
    (ap Some read.0 ∙ sym it.2, λ r some. let same = some_is_some c.in_ok-read_receipt.field-0 r some in ap (λ (x : ReceiptRow). x.number) (sym same) ∙ read.1)

pub returns-in_err-row-clause-rest : goal.returns-in_err-row-clause-rest
returns-in_err-row-clause-rest g c = failed c.from_residual.result c.select_receipt.ensures.rest c.from_residual.ensures.0

pub returns-in_default-clause-rest : goal.returns-in_default-clause-rest
returns-in_default-clause-rest g c = succeeded _ c.in_ok-row.ensures.rest

pub returns-in_err-read_receipt-clause-rest : goal.returns-in_err-read_receipt-clause-rest
returns-in_err-read_receipt-clause-rest g c = failed c.from_residual-in_err-read_receipt.result c.in_ok-row.ensures.rest c.from_residual-in_err-read_receipt.ensures.0

pub returns-clause-rest : goal.returns-clause-rest
returns-clause-rest g c = succeeded _ c.in_ok-row.ensures.rest
