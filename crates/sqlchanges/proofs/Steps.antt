-- What an INSERT of one row, an UPDATE and a DELETE inside a transaction do to one of our tables, as sets of rows.
use Rattle.std.proofs.Common.{◌≡◌, ℕ, List, [], ◌∷◌, ◌/◌, map, drop, length, slice_get, Bool, true, Some, Ok, refl, ap, subst, ◌∙◌}
use Rattle.std.specs.List.{list_all}
use Rattle.sqlite_value.specs.declared.value.Value.TheVariants.{Null}
use Rattle.sqlite_value.specs.Order.{Row}
use Rattle.sqlite_trees.specs.Tree.{Trees}
use Rattle.sqlite_sql.specs.Term.{Term, col, eval_all, holds}
use Rattle.sqlite_sql.specs.Program.{overlay}
use Rattle.sqlite_schema.specs.declared.schema.Schema.{Schema}
use Rattle.sqlite_schema.specs.declared.schema.Table.{Table}
use Rattle.sqlite_schema.specs.declared.schema.Keys.TheVariants.{Enforced}
use Rattle.sqlite_rules.specs.Cast.{cast_row}
use Rattle.sqlite_rules.specs.Calls.{ids_of}
use Rattle.sqlite_rules.specs.Edit.{edit_of, put_all, without_all, are_fresh, numbered, Applies}
use Rattle.sqlite_rules.specs.declared.error.Rowids.TheVariants.{Chosen, Given}
use Rattle.sqlite_rules.proofs.PlaceLemmas.{given}
use Rattle.sqlite.specs.Effect.{Database, value_rows}
use Rattle.sqlite.specs.Rows.{stamped}
use Rattle.sqlite.specs.Listing.{understood}
use Rattle.sqlite.specs.State.{State, mode_of, Executes}
use Rattle.sqlite.proofs.Callers.{runs_as, statement_of}
use Rattle.sqltables.specs.Means.{IsWhole}
use Rattle.sqltables.proofs.Says.{Says}
use Rattle.sqltables.proofs.Forms.{insert, update, delete, some_rows}
use Rattle.sqltables.proofs.Inserts.{inserts, plain}
use Rattle.sqltables.proofs.Updates.{updates, deletes, HaveRowids, AreSelected, RowsChange, RowsGo, rows_change, rows_go}
use Rattle.sqltables.proofs.Queries.{answered, AreFound}
use Rattle.sqltables.proofs.Ours.{IsOurs, OthersStay}
use Rattle.sqltables.proofs.Restrict.{one_step}

-- `low`, by `refl`: the table's number is below the numbers of the tables that WITH makes

-- the schema and the other tables are unchanged
pub record Leaves (schema : Schema) (tree : ℕ) (old new : Database) : Type 0 where
  pub same_schema : new.schema ≡ schema
  pub sound : IsWhole new
  pub stay : OthersStay schema tree old.trees new.trees

pub record Inserted (rows after : List Row) (row : Row) : Type 0 where
  pub fresh : are_fresh rows (row ∷ []) ≡ true
  pub is : after ≡ put_all rows (row ∷ [])

module _ (schema : Schema) (ours : IsOurs schema) (t : Table) (at : ℕ) (found : slice_get schema.tables at ≡ Some (plain t)) (text : List ℕ) (params : Row) (old new : State) (count : ℕ)
    (low : (db : Trees) → overlay db [] t.tree ≡ db t.tree) (has : old.now.schema ≡ schema) (ran : Executes text params old new (Ok count)) where
  abbrev before : List Row
  before = old.now.trees t.tree

  pub inserts_row : (terms : List Term) (width : ℕ) → Says schema text (insert at terms width) → (row : Row)
      → numbered Chosen before (map (λ s. cast_row (plain t) (drop 0 s)) (value_rows (stamped (plain t) params) width (length terms / width) terms)) ≡ row ∷ []
      → Leaves schema t.tree old.now new.now × Inserted before (new.now.trees t.tree) row
  unfolding IsWhole
  inserts_row terms width says row news =
      let w = runs_as text params old new schema has (insert at terms width) says.is says.plain count ran in
      let done = inserts schema t at found old.step_limit (mode_of old) old.now new.now terms width (statement_of text (understood schema text)) params w.tally refl has w.changed in (
        record { same_schema = done.same_schema; sound = w.sound; stay = ours.stay t.tree old.now.trees new.now.trees done.applied.tables },
        record { fresh = subst (λ all. are_fresh before all ≡ true) news done.applied.fresh; is = done.applied.rows ∙ ap (put_all before) news },
      )

  abbrev passes : List Term → Row → Bool
  passes filter r = list_all (holds (params ∷ r ∷ [])) filter

  abbrev updated : List Term → Row → Row
  updated terms r = cast_row (plain t) (eval_all terms (params ∷ r ∷ []))

  pub updates_rows : (filter terms : List Term) → Says schema text (update at t.tree filter terms) → HaveRowids before
      → Leaves schema t.tree old.now new.now × RowsChange before (new.now.trees t.tree) (passes filter) (updated terms)
  unfolding IsWhole
  updates_rows filter terms says apart =
      let body = some_rows t.tree filter (col 1 0 ∷ terms) in
      let w = runs_as text params old new schema has (update at t.tree filter terms) says.is says.plain count ran in
      let done = updates schema t at found old.step_limit (mode_of old) old.now new.now body (statement_of text (understood schema text)) params w.tally refl has w.changed in
      let selected = done.selected in
      let show : Row → Row = λ r. eval_all (col 1 0 ∷ terms) (params ∷ r ∷ []) in
      let recast : Row → Row = λ s. cast_row (plain t) (drop 1 s) in
      let answer : AreFound filter (col 1 0 ∷ terms) before params selected = subst (λ rows. AreFound filter (col 1 0 ∷ terms) rows params selected) (low old.now.trees) (answered t.tree filter (col 1 0 ∷ terms) (overlay old.now.trees []) params selected (done.answers.answer Null)) in
      let are : AreSelected before selected (passes filter) show = record { sound = answer.sound; complete = answer.complete; keeps = λ r. refl } in
      let left = without_all before (ids_of selected) in
      let news = given left (map recast selected) in
      let edit = edit_of old.now.trees (plain t) (ids_of selected) Given 1 selected in
      let applied : Applies schema Enforced old.now.trees edit new.now.trees = one_step schema ours.restricts old.now.trees new.now.trees edit done.written in
      let fresh : are_fresh left (map recast selected) ≡ true = subst (λ l. are_fresh left l ≡ true) news applied.fresh in
      let all : new.now.trees t.tree ≡ put_all left (map recast selected) = applied.rows ∙ ap (put_all left) news in (
        record { same_schema = done.same_schema; sound = w.sound; stay = ours.stay t.tree old.now.trees new.now.trees applied.tables },
        rows_change before selected (passes filter) show apart are recast (new.now.trees t.tree) fresh all,
      )

  pub deletes_rows : (filter : List Term) → Says schema text (delete at t.tree filter) → HaveRowids before
      → Leaves schema t.tree old.now new.now × RowsGo before (new.now.trees t.tree) (passes filter)
  unfolding IsWhole
  deletes_rows filter says apart =
      let body = some_rows t.tree filter (col 1 0 ∷ []) in
      let w = runs_as text params old new schema has (delete at t.tree filter) says.is says.plain count ran in
      let done = deletes schema t at found old.step_limit (mode_of old) old.now new.now body (statement_of text (understood schema text)) params w.tally refl has w.changed in
      let selected = done.selected in
      let show : Row → Row = λ r. eval_all (col 1 0 ∷ []) (params ∷ r ∷ []) in
      let answer : AreFound filter (col 1 0 ∷ []) before params selected = subst (λ rows. AreFound filter (col 1 0 ∷ []) rows params selected) (low old.now.trees) (answered t.tree filter (col 1 0 ∷ []) (overlay old.now.trees []) params selected (done.answers.answer Null)) in
      let are : AreSelected before selected (passes filter) show = record { sound = answer.sound; complete = answer.complete; keeps = λ r. refl } in
      let edit = edit_of old.now.trees (plain t) (ids_of selected) Given 0 [] in
      let applied : Applies schema Enforced old.now.trees edit new.now.trees = one_step schema ours.restricts old.now.trees new.now.trees edit done.written in (
        record { same_schema = done.same_schema; sound = w.sound; stay = ours.stay t.tree old.now.trees new.now.trees applied.tables },
        rows_go before selected (passes filter) show apart are (new.now.trees t.tree) applied.rows,
      )
