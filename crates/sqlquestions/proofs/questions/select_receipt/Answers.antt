use Rattle.std.proofs.Common.{◌≡◌, ◌+◌, ℤ, pos, [], ◌∷◌, IfOk, FitsSigned, w64, to_z, of_z, arith, refl, sym, ap, subst, ◌∙◌}
use Rattle.std.proofs.lemmas.Int.{to_z-of_z}
use Rattle.sqltables.specs.Inside.{seen}
use Rattle.sqlite_value.specs.declared.value.Value.TheVariants.{Int}
use Rattle.sqlite.specs.State.{HasCleanDisk}
use Rattle.sqltables.specs.Questions.{ShowsRow}
use Rattle.sqltables.proofs.Ours.{asks_of}
use Rattle.sqltables.proofs.Texts.{select_receipt, select_receipt_command, select_receipt_is}
use Rattle.sqltables.proofs.Asked.{finds_row}
use Rattle.sqltables.proofs.Onward.{refused}
use Rattle.sqlquestions.proofs.PointQueries.{picks_receipt}
use Rattle.sqlquestions.proofs.questions.select_receipt.Goals as goal

pub returns-clause-found : goal.returns-clause-found
returns-clause-found g c v tables at ours pends number inside clean =
    let old = seen g.T.Ledger.view c.args.tx.now in
    let new = seen g.T.Ledger.view c.select_row.new.tx in
    let early : HasCleanDisk old = omega (arith, c.select_row.ensures.rest.survives.clean) in
    let fits : FitsSigned w64 c.in-Ok.number = subst (FitsSigned w64) (sym c.in-Ok.ensures.1) c.in-Ok.ensures.0 in
    let same : to_z w64 (of_z w64 c.in-Ok.number) ≡ pos (at + 1) = to_z-of_z w64 c.in-Ok.number fits ∙ c.in-Ok.ensures.1 ∙ ap pos number in
    finds_row _ _ _ _ _ _ _ _ _ (picks_receipt tables at) v 5 _ select_receipt (asks_of v ours select_receipt select_receipt_command select_receipt_is) old new tables (λ db. refl) (λ m. m.receipts) inside (pends early inside)
    c.select_row.result (subst (λ (n : ℤ). IfOk c.select_row.result (ShowsRow select_receipt (Int n ∷ []) old new)) same (rw c.params-to_sql.ensures at (c.select_row.ensures.shown clean)))

pub returns-clause-still : goal.returns-clause-still
returns-clause-still g c v tables ours pends = c.select_row.ensures.still v tables (asks_of v ours select_receipt select_receipt_command select_receipt_is).says.plain pends

pub returns-in_default-clause-rest : goal.returns-in_default-clause-rest
returns-in_default-clause-rest g c = refused c.args.tx.now

pub returns-clause-rest : goal.returns-clause-rest
returns-clause-rest g c = grind arith

pub returns-in_default-clause-found : goal.returns-in_default-clause-found
returns-in_default-clause-found g c = grind arith
