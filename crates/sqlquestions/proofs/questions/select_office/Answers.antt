use Rattle.std.proofs.Common.{arith, refl}
use Rattle.sqltables.specs.Inside.{seen}
use Rattle.sqlite.specs.State.{HasCleanDisk}
use Rattle.sqltables.proofs.Ours.{asks_of}
use Rattle.sqltables.proofs.Texts.{select_office, select_office_command, select_office_is}
use Rattle.sqltables.proofs.Asked.{finds_row}
use Rattle.sqlquestions.proofs.PointQueries.{picks_office}
use Rattle.sqlquestions.proofs.questions.select_office.Goals as goal

pub returns-clause-found : goal.returns-clause-found
returns-clause-found g c v tables ours pends inside clean =
    let old = seen g.T.Ledger.view c.args.tx.now in
    let new = seen g.T.Ledger.view c.select_row.new.tx in
    let early : HasCleanDisk old = omega (arith, c.select_row.ensures.rest.survives.clean) in
    finds_row _ _ _ _ _ _ _ _ _ (picks_office v.number tables) v 0 _ select_office (asks_of v ours select_office select_office_command select_office_is) old new tables (λ db. refl) (λ m. m.office) inside (pends early inside)
    c.select_row.result (c.select_row.ensures.shown clean)

pub returns-clause-still : goal.returns-clause-still
returns-clause-still g c v tables ours pends = c.select_row.ensures.still v tables (asks_of v ours select_office select_office_command select_office_is).says.plain pends
