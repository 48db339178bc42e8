use Rattle.std.proofs.Common.{arith, refl}
use Rattle.sqltables.specs.Inside.{seen}
use Rattle.sqlite.specs.State.{HasCleanDisk}
use Rattle.sqltables.proofs.Ours.{asks_of}
use Rattle.sqltables.proofs.Texts.{select_key, select_key_command, select_key_is}
use Rattle.sqltables.proofs.Asked.{finds_row}
use Rattle.sqlquestions.proofs.PointQueries.{picks_key}
use Rattle.sqlquestions.proofs.questions.select_key.Goals as goal

pub returns-clause-found : goal.returns-clause-found
returns-clause-found g c v tables ours pends inside clean =
    let old = seen g.T.Ledger.view c.args.tx.now in
    let new = seen g.T.Ledger.view c.select_row.new.tx in
    let early : HasCleanDisk old = omega (arith, c.select_row.ensures.rest.survives.clean) in
    finds_row _ _ _ _ _ _ _ _ _ (picks_key tables c.args.id.now) v 1 _ select_key (asks_of v ours select_key select_key_command select_key_is) old new tables (λ db. refl) (λ m. m.keys) inside (pends early inside)
    c.select_row.result (rw (c.params-to_sql.ensures) at (c.select_row.ensures.shown clean))

pub returns-clause-still : goal.returns-clause-still
returns-clause-still g c v tables ours pends = c.select_row.ensures.still v tables (asks_of v ours select_key select_key_command select_key_is).says.plain pends

pub returns-clause-rest : goal.returns-clause-rest
returns-clause-rest g c = grind arith
