use Rattle.std.proofs.Common.{arith}
use Rattle.sqltables.specs.Inside.{seen}
use Rattle.sqlite.specs.State.{HasCleanDisk}
use Rattle.sqlchanges.proofs.Upgrades.{puts_rules}
use Rattle.sqlchanges.proofs.Ran.{ran_then}
use Rattle.sqlchanges.proofs.making.insert_rules.Goals as goal

pub returns-clause-done : goal.returns-clause-done
returns-clause-done g c tables sees = ran_then c.run.result c.run.ensures.ran (λ clean run inside is_open.
    let old = seen g.T.Ledger.view c.args.tx.now in
    let new = seen g.T.Ledger.view c.run.new.tx in
    let early : HasCleanDisk old = omega (arith, c.run.ensures.rest.survives.clean) in
    let ran = rw (c.params-to_sql.ensures) at run.executed in
    puts_rules old new run.count tables c.args.seconds (sees early run.inside ran.1.was_open) ran.0)

pub returns-clause-rest : goal.returns-clause-rest
returns-clause-rest g c = grind arith
