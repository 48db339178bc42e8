use Rattle.std.proofs.Common.{arith}
use Rattle.sqltables.specs.Inside.{seen}
use Rattle.sqlite.specs.State.{HasCleanDisk}
use Rattle.sqlchanges.proofs.Ran.{ran_then}
use Rattle.sqlchanges.proofs.making.create_table.Goals as goal

pub returns-clause-added : goal.returns-clause-added
returns-clause-added g c before after empty more tables adds sees = ran_then c.run.result c.run.ensures.ran (λ clean run inside is_open.
    let old = seen g.T.Ledger.view c.args.tx.now in
    let early : HasCleanDisk old = omega (arith, c.run.ensures.rest.survives.clean) in
    let ran = run.executed in
    adds run.count (sees early run.inside ran.1.was_open) ran.0)

pub returns-clause-done : goal.returns-clause-done
returns-clause-done g c before after creates sees = ran_then c.run.result c.run.ensures.ran (λ clean run inside is_open.
    let old = seen g.T.Ledger.view c.args.tx.now in
    let early : HasCleanDisk old = omega (arith, c.run.ensures.rest.survives.clean) in
    let ran = run.executed in
    creates run.count (sees early run.inside ran.1.was_open) ran.0)

pub returns-clause-rest : goal.returns-clause-rest
returns-clause-rest g c = grind arith
