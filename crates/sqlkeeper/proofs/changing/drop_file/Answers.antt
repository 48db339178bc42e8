use Rattle.std.proofs.Common.{◌≡◌, sym, subst, arith, ◌∙◌, OnOk}
use Rattle.sqltables.specs.Inside.{seen}
use Rattle.sqlite.specs.State.{HasCleanDisk}
use Rattle.boxes.specs.State.{Place}
use Rattle.boxes.specs.Steps.{DropFile}
use Rattle.boxes.specs.Changes.{IsObeyed}
use Rattle.sqltables.specs.Tables.{tables_of}
use Rattle.sqltables.specs.Means.{Pends}
use Rattle.sqlchanges.proofs.Commands.{row_of}
use Rattle.sqlkeeper.proofs.FileChanges.{given, totals_are, dropped, of_box, dropped_tables}
use Rattle.sqltables.proofs.Onward.{begun_then, failed, gave_up, followed}
use Rattle.sqlchanges.proofs.Chained.{within}
use Rattle.sqlkeeper.proofs.changing.drop_file.Goals as goal

pub returns-clause-done : goal.returns-clause-done
returns-clause-done g c v s after ours pends sound obeyed inside = given _ _ c.take_rows.result (λ clean.
    let asked : Place = record { box = c.args.in_box.now; name = c.args.name.now } in
    let place : Place = record { box = c.in_ok-in_box.in_box.now; name = c.in_ok-name.name.now } in
    let same : place ≡ asked = λ i. record { box = c.in_ok-in_box.ensures i; name = c.in_ok-name.ensures i } in
    let named : IsObeyed s (DropFile place) after = subst (λ p. IsObeyed s (DropFile p) after) (sym same) obeyed in
    let last : HasCleanDisk (seen g.T.Ledger.view c.totals.new.tx) = omega (arith, c.take_rows.ensures.rest.survives.clean) in
    let first : HasCleanDisk (seen g.T.Ledger.view c.standing_size.new.tx) = omega (arith, c.in_ok-totals.ensures.rest.survives.clean) in
    let size = sym (c.in_ok-size.ensures.found v s ours pends sound inside first) ∙ c.in-Some.is in
    let running = c.in_ok-size.ensures.rest.running first inside in
    let sized = c.in_ok-size.ensures.still v (tables_of s) ours pends in
    let shown = c.in_ok-totals.ensures.found v (tables_of s) ours sized running.0 last in
    let still = c.in_ok-totals.ensures.still v (tables_of s) ours sized in
    let file = dropped s place after c.in-Some.size sound named size in
    let b = of_box s place after c.in-Some.size sound named size in
    let held = totals_are s place.box b.0 c.in_ok-totals.field-0 b.1 shown in
    let counted = c.take_out-left.ensures s place file.0 held file.1 file.2 in
    let there : (tables_of s).box place.box ≡ _ = rw b.1 in
    let done = c.take_rows.ensures.done v (tables_of s) (row_of s place.box b.0) ours still there in
    subst (λ t. OnOk c.take_rows.result (Pends v (seen g.T.Ledger.view c.take_rows.new.tx) t)) (dropped_tables s place after c.in-Some.size sound named size c.take_out-left.result counted) done)

pub returns-in_err-in_box-clause-rest : goal.returns-in_err-in_box-clause-rest
returns-in_err-in_box-clause-rest g c = gave_up c.args.tx.now c.from_residual.result c.from_residual.ensures.0

pub returns-in_err-name-clause-rest : goal.returns-in_err-name-clause-rest
returns-in_err-name-clause-rest g c = gave_up c.args.tx.now c.from_residual-in_err-name.result c.from_residual-in_err-name.ensures.0

pub returns-in_err-size-clause-rest : goal.returns-in_err-size-clause-rest
returns-in_err-size-clause-rest g c = failed c.from_residual-in_err-size.result c.standing_size.ensures.rest c.from_residual-in_err-size.ensures.0

pub returns-in_err-totals-clause-rest : goal.returns-in_err-totals-clause-rest
returns-in_err-totals-clause-rest g c = failed c.from_residual-in_err-totals.result (begun_then c.in_ok-size.ensures.rest c.totals.ensures.rest) c.from_residual-in_err-totals.ensures.0

pub returns-clause-rest : goal.returns-clause-rest
returns-clause-rest g c = begun_then (begun_then c.in_ok-size.ensures.rest c.in_ok-totals.ensures.rest) (within c.take_rows.ensures.rest)

pub returns-in_default-clause-rest : goal.returns-in_default-clause-rest
returns-in_default-clause-rest g c = followed _ c.in_ok-size.ensures.rest

pub returns-in_default-clause-done : goal.returns-in_default-clause-done
returns-in_default-clause-done g c = grind arith

pub standing_size-requires-text-in_box : goal.standing_size-requires-text-in_box
standing_size-requires-text-in_box g c = grind arith
