use Rattle.std.proofs.Common.{arith, ◌≡◌, ◌∷◌, [], ap, sym, subst, Ok, w32, to_z, ◌∙◌}
use Rattle.sqltables.specs.Inside.{seen}
use Rattle.sqlite.specs.State.{HasCleanDisk, Executes}
use Rattle.sqltables.proofs.Ours.{ours_of, says_of}
use Rattle.sqlite_value.specs.declared.value.Value.TheVariants.{Int, Text, Blob}
use Rattle.sqlite_value.specs.Order.{Row}
use Rattle.sqltables.specs.Tables.{role_number}
use Rattle.sqltables.proofs.Texts.{insert_key, insert_key_command, insert_key_is}
use Rattle.sqlchanges.proofs.KeyRows.{given_key, puts_key}
use Rattle.sqlchanges.proofs.Ran.{ran_then}
use Rattle.sqlchanges.proofs.statements.insert_key.Goals.{in-Link, in-Clerk}
use Rattle.sqlchanges.proofs.statements.insert_key.Goals as goal

pub returns-clause-done : goal.returns-clause-done
returns-clause-done g c v tables ours pends free = ran_then c.run.result c.run.ensures.ran (λ clean run inside is_open.
    let old = seen g.T.Ledger.view c.args.tx.now in
    let new = seen g.T.Ledger.view c.run.new.tx in
    let early : HasCleanDisk old = omega (arith, c.run.ensures.rest.survives.clean) in
    let number_is : to_z w32 c.match-role.number-bits ≡ role_number c.args.role = elim c.match-role.branch [ in-Link w ↦ w.number-is ∙ ap role_number (sym w.in-Link.is) | in-Clerk w ↦ w.number-is ∙ ap role_number (sym w.in-Clerk.is) ] in
    let ran = rw (c.params-to_sql.ensures, c.params-to_sql-2.ensures, c.params-to_sql-3.ensures) at run.executed in
    let it = pends early run.inside ran.1.was_open in
    let params : Row = Text c.args.id.now ∷ Int (to_z w32 c.match-role.number-bits) ∷ Blob c.args.secret.now ∷ [] in
    let same : params ≡ given_key c.args.id.now c.args.role c.args.secret.now = rw number_is in
    puts_key v (ours_of v ours) (says_of v ours insert_key insert_key_command insert_key_is) old new run.count tables c.args.id.now c.args.role c.args.secret.now it.schema it.means free
    (subst (λ p. Executes insert_key p old new (Ok run.count)) same ran.0))

pub returns-clause-rest : goal.returns-clause-rest
returns-clause-rest g c = grind arith
