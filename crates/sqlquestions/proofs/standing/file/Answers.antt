use Rattle.std.proofs.Common.{Some, arith, refl, subst}
use Rattle.sqltables.specs.Inside.{seen}
use Rattle.sqlite.specs.State.{HasCleanDisk}
use Rattle.boxes.specs.State.{Place}
use Rattle.boxes.specs.Views.{IsReceiptAt}
use Rattle.sqltables.specs.Tables.{tables_of}
use Rattle.sqltables.proofs.StandingFiles.{at_place, size_is, pieces_are, file_found}
use Rattle.sqltables.proofs.Onward.{and_then, failed, succeeded}
use Rattle.sqlquestions.proofs.standing.file.Goals as goal

pub returns-clause-found : goal.returns-clause-found
returns-clause-found g c v s ours pends sound inside clean =
    let place : Place = record { box = c.args.in_box.now; name = c.args.name.now } in
    let r = c.in-Some.receipt in
    let early : HasCleanDisk (seen g.T.Ledger.view c.standing_receipt.new.tx) = omega (arith, c.file_bytes.ensures.rest.survives.clean) in
    let found : IsReceiptAt s place (Some r) = subst (IsReceiptAt s place) c.in-Some.is (c.in_ok-receipt.ensures.found v s ours pends sound inside early) in
    let still = c.in_ok-receipt.ensures.still v (tables_of s) ours pends in
    let running = c.in_ok-receipt.ensures.rest.running early inside in
    let bytes = c.in_ok-bytes.ensures.found v (tables_of s) (at_place s sound place r found).0.bytes ours still (size_is s sound place r found) (pieces_are s sound place r found) running.0 clean in
    file_found s sound place r found (record { bytes = c.in_ok-bytes.bytes; receipt = r }) bytes refl

pub returns-clause-still : goal.returns-clause-still
returns-clause-still g c v tables ours pends = c.in_ok-bytes.ensures.still v tables ours (c.in_ok-receipt.ensures.still v tables ours pends)

pub returns-in_err-receipt-clause-rest : goal.returns-in_err-receipt-clause-rest
returns-in_err-receipt-clause-rest g c = failed c.from_residual.result c.standing_receipt.ensures.rest c.from_residual.ensures.0

pub returns-in_default-clause-rest : goal.returns-in_default-clause-rest
returns-in_default-clause-rest g c = succeeded _ c.in_ok-receipt.ensures.rest

pub returns-in_err-bytes-clause-rest : goal.returns-in_err-bytes-clause-rest
returns-in_err-bytes-clause-rest g c =
    and_then (λ began. began) (λ running. (running, running.0)) c.in_ok-receipt.ensures.rest (failed c.from_residual-in_err-bytes.result c.file_bytes.ensures.rest c.from_residual-in_err-bytes.ensures.0)

pub returns-clause-rest : goal.returns-clause-rest
returns-clause-rest g c = and_then (λ began. began) (λ running. (running, running.0)) c.in_ok-receipt.ensures.rest (succeeded _ c.in_ok-bytes.ensures.rest)

pub returns-in_default-clause-found : goal.returns-in_default-clause-found
returns-in_default-clause-found g c = grind arith
