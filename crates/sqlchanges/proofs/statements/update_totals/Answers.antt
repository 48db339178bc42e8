use Rattle.std.proofs.Common.{arith, ◌≡◌, ◌∷◌, [], pos, subst, Ok, w64, to_z, of_z}
use Rattle.sqltables.specs.Inside.{seen}
use Rattle.sqlite.specs.State.{HasCleanDisk}
use Rattle.sqltables.proofs.Ours.{ours_of, says_of}
use Rattle.sqlite.specs.State.{Executes}
use Rattle.sqlite_value.specs.declared.value.Value.TheVariants.{Int, Text}
use Rattle.sqlite_value.specs.Order.{Row}
use Rattle.std.proofs.lemmas.Int.{to_z-of_z}
use Rattle.sqltables.proofs.Texts.{update_totals, update_totals_command, update_totals_is}
use Rattle.sqlchanges.proofs.TotalRows.{given_totals, sets_totals}
use Rattle.sqlchanges.proofs.Ran.{ran_then}
use Rattle.sqlchanges.proofs.statements.update_totals.Goals as goal

pub returns-clause-done : goal.returns-clause-done
returns-clause-done g c v tables b sum ours pends there used = ran_then c.run.result c.run.ensures.ran (λ clean run inside is_open.
    let old = seen g.T.Ledger.view c.args.tx.now in
    let new = seen g.T.Ledger.view c.run.new.tx in
    let early : HasCleanDisk old = omega (arith, c.run.ensures.rest.survives.clean) in
    let used_is : to_z w64 (of_z w64 c.args.used) ≡ c.args.used = to_z-of_z w64 c.args.used c.ranges.used in
    let ran = rw (c.params-to_sql.ensures, c.params-to_sql-2.ensures, c.params-to_sql-3.ensures, used_is) at run.executed in
    let it = pends early run.inside ran.1.was_open in
    let params : Row = Text c.args.name.now ∷ Int c.args.used ∷ Int (pos c.args.count) ∷ [] in
    let same : params ≡ given_totals c.args.name.now sum c.args.count = rw (← used) in
    sets_totals v (ours_of v ours) (says_of v ours update_totals update_totals_command update_totals_is) old new run.count tables c.args.name.now b sum c.args.count it.schema it.means there
    (subst (λ p. Executes update_totals p old new (Ok run.count)) same ran.0))

pub returns-clause-rest : goal.returns-clause-rest
returns-clause-rest g c = grind arith
