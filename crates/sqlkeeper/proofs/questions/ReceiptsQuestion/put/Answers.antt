use Rattle.std.proofs.Common.{refl, arith}
use Rattle.sqlite.specs.State.{HasCleanDisk}
use Rattle.sqltables.specs.Inside.{seen}
use Rattle.sqltables.specs.Schema.{v2, second_version}
use Rattle.sqltables.specs.Tables.{tables_of}
use Rattle.sqlkeeper.proofs.StateViews.{digests_known}
use Rattle.sqltables.proofs.Onward.{and_then}
use Rattle.sqlkeeper.proofs.questions.ReceiptsQuestion.put.Goals as goal

pub returns-clause-found : goal.returns-clause-found
returns-clause-found g c s pends sound inside clean =
    let before : HasCleanDisk (seen g.T.Ledger.view c.east.new.tx) = omega (arith, clean, c.receipts.ensures.rest.survives.clean) in
    let run = c.in_ok-east.ensures.rest.running before inside in
    c.receipts.ensures.found v2 (tables_of s) s.receipts second_version (c.in_ok-east.ensures.still v2 (tables_of s) second_version pends) refl (digests_known s sound) run.0 clean

pub returns-clause-still : goal.returns-clause-still
returns-clause-still g c s pends = c.receipts.ensures.still v2 (tables_of s) second_version (c.in_ok-east.ensures.still v2 (tables_of s) second_version pends)

pub returns-clause-rest : goal.returns-clause-rest
returns-clause-rest g c = and_then (λ began. began) (λ running. (running, running.0)) c.in_ok-east.ensures.rest c.receipts.ensures.rest
