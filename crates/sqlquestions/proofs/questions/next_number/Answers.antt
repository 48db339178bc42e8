use Rattle.std.proofs.Common.{◌≡◌, ◌+◌, length, slice_get, None, Some, arith, sym, ap, ◌∙◌, rules}
use Rattle.sqltables.specs.Questions.{last_rows}
use Rattle.sqlquestions.proofs.LastNumber.{none_last, some_last}
use Rattle.sqltables.proofs.Onward.{failed, succeeded}
use Rattle.sqlquestions.proofs.questions.next_number.Goals as goal

pub returns-in_default-clause-found : goal.returns-in_default-clause-found
returns-in_default-clause-found g c v tables receipts ours pends listed inside clean =
    let is = c.in_ok-rows.ensures.found v tables receipts ours pends listed inside clean in
    let none : slice_get (last_rows (length receipts)) 0 ≡ None = ap (λ l. slice_get l 0) (sym is) ∙ ap (λ l. slice_get l 0) (sym c.deref.ensures.value) ∙ sym c.in_default.ensures.value in
    let zero = none_last (length receipts) none in omega (arith, zero)

pub returns-in-Some-checked_add-clause-found : goal.returns-in-Some-checked_add-clause-found
returns-in-Some-checked_add-clause-found g c v tables receipts ours pends listed inside clean =
    let is = c.in_ok-rows.ensures.found v tables receipts ours pends listed inside clean in
    let some : slice_get (last_rows (length receipts)) 0 ≡ Some c.in-Some.row.now = ap (λ l. slice_get l 0) (sym is) ∙ ap (λ l. slice_get l 0) (sym c.deref.ensures.value) ∙ sym c.in-Some.ensures.value in
    let last = some_last (length receipts) c.in_ok-last.last c.in-Some.row.now some c.in_ok-last.ensures.ok.1 in
    let next : c.in-Some-checked_add.next ≡ c.in_ok-last.last + 1 = search rules in
    omega (arith, last, next)

pub returns-in_err-rows-clause-rest : goal.returns-in_err-rows-clause-rest
returns-in_err-rows-clause-rest g c = failed c.from_residual.result c.select_last.ensures.rest c.from_residual.ensures.0

pub returns-in_default-clause-rest : goal.returns-in_default-clause-rest
returns-in_default-clause-rest g c = succeeded _ c.in_ok-rows.ensures.rest

pub returns-in_err-last-clause-rest : goal.returns-in_err-last-clause-rest
returns-in_err-last-clause-rest g c = failed c.from_residual-in_err-last.result c.in_ok-rows.ensures.rest c.from_residual-in_err-last.ensures.0

pub returns-in-Some-checked_add-clause-rest : goal.returns-in-Some-checked_add-clause-rest
returns-in-Some-checked_add-clause-rest g c = succeeded _ c.in_ok-rows.ensures.rest

pub returns-clause-found : goal.returns-clause-found
returns-clause-found g c = grind arith

pub returns-clause-rest : goal.returns-clause-rest
returns-clause-rest g c = grind arith

pub returns-clause-still : goal.returns-clause-still
returns-clause-still g c = grind arith
