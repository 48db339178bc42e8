use Rattle.std.proofs.Common.{arith}
use Rattle.sqltables.specs.Inside.{seen}
use Rattle.sqlite.specs.State.{HasCleanDisk}
use Rattle.sqltables.specs.Schema.{v2}
use Rattle.sqltables.proofs.AddedTexts.{select_limits, select_limits_is}
use Rattle.sqltables.proofs.Asked.{query_stays}
use Rattle.sqlquestions.proofs.LimitQueries.{shows_limits}
use Rattle.sqlquestions.proofs.questions.select_limits.Goals as goal

pub returns-clause-found : goal.returns-clause-found
returns-clause-found g c tables pends inside clean =
    let old = seen g.T.Ledger.view c.args.tx.now in
    let new = seen g.T.Ledger.view c.query.new.self in
    let early : HasCleanDisk old = omega (arith, c.query.ensures.rest.survives.clean) in
    shows_limits (λ v. v.items) c.query.result c.args.id.now old new tables inside (pends early inside) (rw (c.params-to_sql.ensures) at (c.query.ensures.ok clean))

pub returns-clause-still : goal.returns-clause-still
returns-clause-still g c tables pends =
    let old = seen g.T.Ledger.view c.args.tx.now in
    let new = seen g.T.Ledger.view c.query.new.self in
    let early : HasCleanDisk new → HasCleanDisk old = λ clean. omega (arith, c.query.ensures.rest.survives.clean) in
    query_stays (λ v. v.items) v2 tables select_limits _ old new c.query.result select_limits_is.says.plain early pends c.query.ensures.ok

pub returns-clause-rest : goal.returns-clause-rest
returns-clause-rest g c = grind arith
