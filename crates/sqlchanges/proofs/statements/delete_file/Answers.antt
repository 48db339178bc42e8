use Rattle.std.proofs.Common.{arith}
use Rattle.sqltables.specs.Inside.{seen}
use Rattle.sqlite.specs.State.{HasCleanDisk}
use Rattle.sqltables.proofs.Ours.{ours_of, says_of}
use Rattle.sqltables.proofs.Texts.{delete_file, delete_file_command, delete_file_is}
use Rattle.sqlchanges.proofs.FileRows.{drops_file}
use Rattle.sqlchanges.proofs.Ran.{ran_then}
use Rattle.sqlchanges.proofs.statements.delete_file.Goals as goal

pub returns-clause-done : goal.returns-clause-done
returns-clause-done g c v tables ours pends = ran_then c.run.result c.run.ensures.ran (λ clean run inside is_open.
    let old = seen g.T.Ledger.view c.args.tx.now in
    let new = seen g.T.Ledger.view c.run.new.tx in
    let early : HasCleanDisk old = omega (arith, c.run.ensures.rest.survives.clean) in
    let ran = rw (c.params-to_sql.ensures, c.params-to_sql-2.ensures) at run.executed in
    let it = pends early run.inside ran.1.was_open in
    drops_file v (ours_of v ours) (says_of v ours delete_file delete_file_command delete_file_is) old new run.count tables
    (record { box = c.args.in_box.now; name = c.args.name.now }) it.schema it.means ran.0)

pub returns-clause-rest : goal.returns-clause-rest
returns-clause-rest g c = grind arith
