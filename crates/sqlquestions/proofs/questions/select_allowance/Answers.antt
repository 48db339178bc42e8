use Rattle.std.proofs.Common.{arith, refl}
use Rattle.sqltables.specs.Inside.{seen}
use Rattle.sqlite.specs.State.{HasCleanDisk}
use Rattle.sqltables.specs.Schema.{v2}
use Rattle.sqltables.proofs.AddedTexts.{select_allowance, select_allowance_is}
use Rattle.sqltables.proofs.Asked.{finds_row}
use Rattle.sqlquestions.proofs.PointQueries.{picks_allowance}
use Rattle.sqlquestions.proofs.questions.select_allowance.Goals as goal

pub returns-clause-found : goal.returns-clause-found
returns-clause-found g c tables pends inside clean =
    let old = seen g.T.Ledger.view c.args.tx.now in
    let new = seen g.T.Ledger.view c.select_row.new.tx in
    let early : HasCleanDisk old = omega (arith, c.select_row.ensures.rest.survives.clean) in
    finds_row _ _ _ _ _ _ _ _ _ (picks_allowance tables) v2 11 _ select_allowance select_allowance_is old new tables (λ db. refl) (λ m. m.rules refl) inside (pends early inside)
    c.select_row.result (c.select_row.ensures.shown clean)

pub returns-clause-still : goal.returns-clause-still
returns-clause-still g c tables pends = c.select_row.ensures.still v2 tables select_allowance_is.says.plain pends
