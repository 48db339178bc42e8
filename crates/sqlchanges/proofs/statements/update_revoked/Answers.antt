use Rattle.std.proofs.Common.{arith}
use Rattle.sqltables.specs.Inside.{seen}
use Rattle.sqlite.specs.State.{HasCleanDisk}
use Rattle.sqltables.proofs.Ours.{ours_of, says_of}
use Rattle.sqltables.proofs.Texts.{update_revoked, update_revoked_command, update_revoked_is}
use Rattle.sqlchanges.proofs.KeyRows.{revokes_key}
use Rattle.sqlchanges.proofs.Ran.{ran_then}
use Rattle.sqlchanges.proofs.statements.update_revoked.Goals as goal

pub returns-clause-done : goal.returns-clause-done
returns-clause-done g c v tables key ours pends there = ran_then c.run.result c.run.ensures.ran (λ clean run inside is_open.
    let old = seen g.T.Ledger.view c.args.tx.now in
    let new = seen g.T.Ledger.view c.run.new.tx in
    let early : HasCleanDisk old = omega (arith, c.run.ensures.rest.survives.clean) in
    let ran = rw c.params-to_sql.ensures at run.executed in
    let it = pends early run.inside ran.1.was_open in
    revokes_key v (ours_of v ours) (says_of v ours update_revoked update_revoked_command update_revoked_is) old new run.count tables c.args.id.now key it.schema it.means there ran.0)

pub returns-clause-rest : goal.returns-clause-rest
returns-clause-rest g c = grind arith
