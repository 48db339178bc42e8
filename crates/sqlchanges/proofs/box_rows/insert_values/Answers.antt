use Rattle.std.proofs.Common.{arith, ◌≡◌, ◌∷◌, [], subst, Ok, w32, w64, to_z, of_z, rules}
use Rattle.sqltables.specs.Inside.{seen}
use Rattle.sqlite.specs.State.{HasCleanDisk, Executes}
use Rattle.sqltables.proofs.Ours.{ours_of, says_of}
use Rattle.sqlite_value.specs.declared.value.Value.TheVariants.{Int, Text}
use Rattle.sqlite_value.specs.Order.{Row}
use Rattle.sqltables.proofs.Texts.{insert_box, insert_box_command, insert_box_is}
use Rattle.sqlchanges.proofs.BoxRows.{given_box, puts_box}
use Rattle.sqlchanges.proofs.Ran.{ran_then}
use Rattle.sqlchanges.proofs.box_rows.insert_values.Goals as goal

pub returns-clause-done : goal.returns-clause-done
returns-clause-done g c v tables b ours pends free are = ran_then c.run.result c.run.ensures.ran (λ clean run inside is_open.
    let old = seen g.T.Ledger.view c.args.tx.now in
    let new = seen g.T.Ledger.view c.run.new.tx in
    let early : HasCleanDisk old = omega (arith, c.run.ensures.rest.survives.clean) in
    let ran = rw (
      c.params-to_sql.ensures,
      c.params-to_sql-2.ensures,
      c.params-to_sql-3.ensures,
      c.params-to_sql-4.ensures,
      c.params-to_sql-5.ensures,
      c.params-to_sql-6.ensures,
      c.params-to_sql-7.ensures,
      c.params-to_sql-8.ensures,
      c.params-to_sql-9.ensures,
      c.params-to_sql-10.ensures,
      c.params-to_sql-11.ensures,
    ) at run.executed in
    let it = pends early run.inside ran.1.was_open in
    let values = c.args.values.now in
    let opens : to_z w64 (of_z w64 values.opens) ≡ values.opens = search rules in
    let closes : to_z w64 (of_z w64 values.closes) ≡ values.closes = search rules in
    let from_minute : to_z w32 (of_z w32 values.from_minute) ≡ values.from_minute = search rules in
    let to_minute : to_z w32 (of_z w32 values.to_minute) ≡ values.to_minute = search rules in
    let quota : to_z w64 (of_z w64 values.quota) ≡ values.quota = search rules in
    let max_files : to_z w64 (of_z w64 values.max_files) ≡ values.max_files = search rules in
    let mode : to_z w32 (of_z w32 values.mode) ≡ values.mode = search rules in
    let kind : to_z w32 (of_z w32 values.kind) ≡ values.kind = search rules in
    let params : Row =
    Text c.args.name.now ∷ Int (to_z w64 (of_z w64 values.opens)) ∷ Int (to_z w64 (of_z w64 values.closes)) ∷ Text values.days.now ∷ Int (to_z w32 (of_z w32 values.from_minute)) ∷ Int (to_z w32 (of_z w32 values.to_minute))
    ∷ Int (to_z w64 (of_z w64 values.quota)) ∷ Int (to_z w64 (of_z w64 values.max_files)) ∷ Int (to_z w32 (of_z w32 values.mode)) ∷ Int (to_z w32 (of_z w32 values.kind)) ∷ Text values.text.now ∷ [] in
    let same : params ≡ given_box c.args.name.now b =
    rw (opens, closes, from_minute, to_minute, quota, max_files, mode, kind, are.opens, are.closes, are.days, are.from_minute, are.to_minute, are.quota, are.max_files, are.mode, are.kind, are.text) in
    puts_box v (ours_of v ours) (says_of v ours insert_box insert_box_command insert_box_is) old new run.count tables c.args.name.now b it.schema it.means free
    (subst (λ p. Executes insert_box p old new (Ok run.count)) same ran.0))

pub params-to_sql-requires-4-text-self : goal.params-to_sql-requires-4-text-self
params-to_sql-requires-4-text-self g c = grind arith

pub returns-clause-rest : goal.returns-clause-rest
returns-clause-rest g c = grind arith
