use Rattle.std.proofs.Common.{arith}
use Rattle.sqltables.specs.Inside.{seen}
use Rattle.sqlite.specs.State.{HasCleanDisk}
use Rattle.sqlchanges.proofs.Upgrades.{moves_version, still_unstaged}
use Rattle.sqlchanges.proofs.Ran.{ran_then}
use Rattle.sqlchanges.proofs.making.update_version.Goals as goal

pub returns-clause-done : goal.returns-clause-done
returns-clause-done g c tables seconds sees = ran_then c.run.result c.run.ensures.ran (λ clean run inside is_open.
    let old = seen g.T.Ledger.view c.args.tx.now in
    let new = seen g.T.Ledger.view c.run.new.tx in
    let early : HasCleanDisk old = omega (arith, c.run.ensures.rest.survives.clean) in
    let ran = run.executed in
    moves_version old new run.count tables seconds (sees early run.inside ran.1.was_open) ran.0)

pub returns-clause-unstaged : goal.returns-clause-unstaged
returns-clause-unstaged g c tables seconds sees = ran_then c.run.result c.run.ensures.ran (λ clean run inside is_open.
    let old = seen g.T.Ledger.view c.args.tx.now in
    let new = seen g.T.Ledger.view c.run.new.tx in
    let early : HasCleanDisk old = omega (arith, c.run.ensures.rest.survives.clean) in
    let ran = run.executed in
    still_unstaged old new run.count tables seconds (sees early run.inside ran.1.was_open) ran.0)
