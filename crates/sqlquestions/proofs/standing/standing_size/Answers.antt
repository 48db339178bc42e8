use Rattle.std.proofs.Common.{subst}
use Rattle.boxes.specs.State.{Place}
use Rattle.boxes.specs.Views.{IsReceiptAt}
use Rattle.sqltables.proofs.StandingFiles.{told_size, no_size}
use Rattle.sqltables.proofs.Onward.{failed, succeeded}
use Rattle.sqlquestions.proofs.standing.standing_size.Goals as goal

pub returns-clause-found : goal.returns-clause-found
returns-clause-found g c v s ours pends sound inside clean =
    let place : Place = record { box = c.args.in_box.now; name = c.args.name.now } in
    told_size s sound place c.in-Some.receipt (subst (IsReceiptAt s place) c.in-Some.is (c.in_ok-receipt.ensures.found v s ours pends sound inside clean))

pub returns-in_default-clause-found : goal.returns-in_default-clause-found
returns-in_default-clause-found g c v s ours pends sound inside clean =
    let place : Place = record { box = c.args.in_box.now; name = c.args.name.now } in
    no_size s place (subst (IsReceiptAt s place) c.in_default.is (c.in_ok-receipt.ensures.found v s ours pends sound inside clean))

pub returns-in_err-receipt-clause-rest : goal.returns-in_err-receipt-clause-rest
returns-in_err-receipt-clause-rest g c = failed c.from_residual.result c.standing_receipt.ensures.rest c.from_residual.ensures.0

pub returns-in_default-clause-rest : goal.returns-in_default-clause-rest
returns-in_default-clause-rest g c = succeeded _ c.in_ok-receipt.ensures.rest

pub returns-clause-rest : goal.returns-clause-rest
returns-clause-rest g c = succeeded _ c.in_ok-receipt.ensures.rest
