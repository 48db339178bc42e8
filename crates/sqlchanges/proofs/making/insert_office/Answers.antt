use Rattle.std.proofs.Common.{arith, ◌≡◌, w32, to_z, of_z}
use Rattle.sqltables.specs.Inside.{seen}
use Rattle.sqlite.specs.State.{HasCleanDisk}
use Rattle.std.proofs.lemmas.Int.{to_z-of_z}
use Rattle.sqlchanges.proofs.FirstRows.{puts_office}
use Rattle.sqlchanges.proofs.Ran.{ran_then}
use Rattle.sqlchanges.proofs.making.insert_office.Goals as goal

pub returns-clause-done : goal.returns-clause-done
returns-clause-done g c sees = ran_then c.run.result c.run.ensures.ran (λ clean run inside is_open.
    let old = seen g.T.Ledger.view c.args.tx.now in
    let new = seen g.T.Ledger.view c.run.new.tx in
    let early : HasCleanDisk old = omega (arith, c.run.ensures.rest.survives.clean) in
    let east_is : to_z w32 (of_z w32 c.from.result) ≡ c.args.east = grind (arith, to_z-of_z, c.ranges.east.sfits, c.from.ensures) in
    let ran = rw (c.params-to_sql.ensures, east_is) at run.executed in
    puts_office old new run.count c.args.east (sees early run.inside ran.1.was_open) ran.0)

pub returns-clause-rest : goal.returns-clause-rest
returns-clause-rest g c = grind arith
