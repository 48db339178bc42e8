use Rattle.std.proofs.Common.{arith}
use Rattle.sqltables.specs.Inside.{seen}
use Rattle.sqlite.specs.State.{HasCleanDisk}
use Rattle.sqltables.proofs.Ours.{asks_of}
use Rattle.sqltables.proofs.Texts.{next_number, next_number_command, next_number_is}
use Rattle.sqltables.proofs.Asked.{query_stays}
use Rattle.sqlquestions.proofs.LastNumber.{shows_last}
use Rattle.sqlquestions.proofs.questions.select_last.Goals as goal

pub returns-clause-found : goal.returns-clause-found
returns-clause-found g c v tables receipts ours pends listed inside clean =
    let old = seen g.T.Ledger.view c.args.tx.now in
    let new = seen g.T.Ledger.view c.query.new.self in
    let early : HasCleanDisk old = omega (arith, c.query.ensures.rest.survives.clean) in
    shows_last (λ v. v.items) c.query.result v (asks_of v ours next_number next_number_command next_number_is) old new tables receipts inside (pends early inside) listed (c.query.ensures.ok clean)

pub returns-clause-still : goal.returns-clause-still
returns-clause-still g c v tables ours pends =
    let old = seen g.T.Ledger.view c.args.tx.now in
    let new = seen g.T.Ledger.view c.query.new.self in
    let early : HasCleanDisk new → HasCleanDisk old = λ clean. omega (arith, c.query.ensures.rest.survives.clean) in
    query_stays (λ v. v.items) v tables next_number _ old new c.query.result (asks_of v ours next_number next_number_command next_number_is).says.plain early pends c.query.ensures.ok
