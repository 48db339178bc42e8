use Rattle.std.proofs.Common.{◌≡◌, Some, arith, sym, ◌∙◌}
use Rattle.sqltables.specs.Inside.{seen}
use Rattle.sqlite.specs.State.{HasCleanDisk}
use Rattle.boxes.specs.State.{Place}
use Rattle.boxes.specs.Views.{IsReceiptAt}
use Rattle.std.proofs.Common.{slice_get}
use Rattle.sqltables.specs.Tables.{tables_of}
use Rattle.sqltables.specs.Questions.{IsReceiptOf}
use Rattle.sqltables.proofs.StandingFiles.{if_ok_more, standing, digests, kept, listed_at, receipt_found}
use Rattle.sqltables.proofs.Onward.{begun_then, failed, succeeded}
use Rattle.sqlquestions.proofs.standing.standing_receipt.Goals as goal

pub returns-in-Some-clause-found : goal.returns-in-Some-clause-found
returns-in-Some-clause-found g c v s ours pends sound inside clean =
    let place : Place = record { box = c.args.in_box.now; name = c.args.name.now } in
    let early : HasCleanDisk (seen g.T.Ledger.view c.file_number.new.tx) = omega (arith, c.receipt.ensures.rest.survives.clean) in
    let is : (tables_of s).file place ≡ Some c.in-Some.number = sym (c.in_ok-number.ensures.found v (tables_of s) ours pends inside early) ∙ c.in-Some.is in
    let it = standing s place c.in-Some.number is in
    let at = (kept s sound place c.in-Some.number it).listed.place in
    let still = c.in_ok-number.ensures.still v (tables_of s) ours pends in
    let running = c.in_ok-number.ensures.rest.running early inside in
    if_ok_more (IsReceiptOf c.in-Some.number (slice_get s.receipts at)) (IsReceiptAt s place) c.receipt.result (receipt_found s sound place c.in-Some.number it)
    (c.receipt.ensures.found v (tables_of s) at ours still (listed_at s sound place c.in-Some.number it) (digests s sound at) running.0 clean)

pub returns-in-Some-clause-still : goal.returns-in-Some-clause-still
returns-in-Some-clause-still g c v tables ours pends = c.receipt.ensures.still v tables ours (c.in_ok-number.ensures.still v tables ours pends)

pub returns-in_err-number-clause-rest : goal.returns-in_err-number-clause-rest
returns-in_err-number-clause-rest g c = failed c.from_residual.result c.file_number.ensures.rest c.from_residual.ensures.0

pub returns-in-Some-clause-rest : goal.returns-in-Some-clause-rest
returns-in-Some-clause-rest g c = begun_then c.in_ok-number.ensures.rest c.receipt.ensures.rest

pub returns-in-None-clause-rest : goal.returns-in-None-clause-rest
returns-in-None-clause-rest g c = succeeded _ c.in_ok-number.ensures.rest

pub returns-in-None-clause-found : goal.returns-in-None-clause-found
returns-in-None-clause-found g c = grind arith

pub returns-in_err-number-clause-found : goal.returns-in_err-number-clause-found
returns-in_err-number-clause-found g c = grind arith
