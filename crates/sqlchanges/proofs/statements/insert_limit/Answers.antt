use Rattle.std.proofs.Common.{arith}
use Rattle.sqltables.specs.Inside.{seen}
use Rattle.sqlite.specs.State.{HasCleanDisk}
use Rattle.sqlchanges.proofs.LimitRows.{puts_limit}
use Rattle.sqlchanges.proofs.Ran.{ran_then}
use Rattle.sqlchanges.proofs.statements.insert_limit.Goals as goal

pub returns-clause-done : goal.returns-clause-done
returns-clause-done g c tables pends free = ran_then c.run.result c.run.ensures.ran (λ clean run inside is_open.
    let old = seen g.T.Ledger.view c.args.tx.now in
    let new = seen g.T.Ledger.view c.run.new.tx in
    let early : HasCleanDisk old = omega (arith, c.run.ensures.rest.survives.clean) in
    let ran = rw (c.params-to_sql.ensures, c.params-to_sql-2.ensures) at run.executed in
    let it = pends early run.inside ran.1.was_open in
    puts_limit old new run.count tables (record { key = c.args.id.now; box = c.args.in_box.now }) it.schema it.means free ran.0)

pub returns-clause-rest : goal.returns-clause-rest
returns-clause-rest g c = grind arith
