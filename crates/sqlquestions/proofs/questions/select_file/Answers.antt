use Rattle.std.proofs.Common.{arith, refl}
use Rattle.sqltables.specs.Inside.{seen}
use Rattle.sqlite.specs.State.{HasCleanDisk}
use Rattle.sqltables.proofs.Ours.{asks_of}
use Rattle.sqltables.proofs.Texts.{select_file, select_file_command, select_file_is}
use Rattle.sqltables.proofs.Asked.{finds_row}
use Rattle.sqlquestions.proofs.PointQueries.{picks_file}
use Rattle.sqlquestions.proofs.questions.select_file.Goals as goal

pub returns-clause-found : goal.returns-clause-found
returns-clause-found g c v tables ours pends inside clean =
    let old = seen g.T.Ledger.view c.args.tx.now in
    let new = seen g.T.Ledger.view c.select_row.new.tx in
    let early : HasCleanDisk old = omega (arith, c.select_row.ensures.rest.survives.clean) in
    finds_row _ _ _ _ _ _ _ _ _ (picks_file tables (record { box = c.args.in_box.now; name = c.args.name.now })) v 6 _ select_file (asks_of v ours select_file select_file_command select_file_is) old new tables (λ db. refl) (λ m. m.files) inside (pends early inside)
    c.select_row.result (rw (c.params-to_sql.ensures, c.params-to_sql-2.ensures) at (c.select_row.ensures.shown clean))

pub returns-clause-still : goal.returns-clause-still
returns-clause-still g c v tables ours pends = c.select_row.ensures.still v tables (asks_of v ours select_file select_file_command select_file_is).says.plain pends

pub returns-clause-rest : goal.returns-clause-rest
returns-clause-rest g c = grind arith
