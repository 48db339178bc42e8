use Rattle.std.proofs.Common.{arith}
use Rattle.sqltables.specs.Inside.{seen}
use Rattle.sqlite.specs.State.{HasCleanDisk}
use Rattle.sqltables.proofs.Ours.{ours_of, says_of}
use Rattle.sqltables.proofs.Texts.{update_file, update_file_command, update_file_is}
use Rattle.sqlchanges.proofs.FileRows.{sets_file}
use Rattle.sqlchanges.proofs.Ran.{ran_then}
use Rattle.sqlchanges.proofs.statements.update_file.Goals as goal

pub returns-clause-done : goal.returns-clause-done
returns-clause-done g c v tables was ours pends there = ran_then c.run.result c.run.ensures.ran (λ clean run inside is_open.
    let old = seen g.T.Ledger.view c.args.tx.now in
    let new = seen g.T.Ledger.view c.run.new.tx in
    let early : HasCleanDisk old = omega (arith, c.run.ensures.rest.survives.clean) in
    let ran = rw (c.params-to_sql.ensures, c.params-to_sql-2.ensures, c.params-to_sql-3.ensures) at run.executed in
    let it = pends early run.inside ran.1.was_open in
    sets_file v (ours_of v ours) (says_of v ours update_file update_file_command update_file_is) old new run.count tables (record { box = c.args.box_name.now; name = c.args.name.now }) was c.args.receipt it.schema it.means there ran.0)

pub returns-clause-rest : goal.returns-clause-rest
returns-clause-rest g c = grind arith
