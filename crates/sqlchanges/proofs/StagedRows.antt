-- Whether a row is staged, and the DELETE of the staged rows.
use Rattle.std.proofs.Common.{◌≡◌, ◌≢◌, inl, ℕ, Bool, true, false, not, List, [], ◌∷◌, map, filter, length, Ok, arith, refl, sym, ap, subst, ◌∙◌}
use Rattle.std.specs.Prelude.{◌↔◌, IsFalse}
use Rattle.std.specs.List.{AllByRecursion}
use Rattle.std.specs.List.Sorted.{IsPermutation}
use Rattle.std.proofs.lemmas.List.Sorted.{IsPermutation-sym}
use Rattle.sqlite_value.specs.declared.value.Value.TheVariants.{Null}
use Rattle.sqlite_value.specs.Order.{Row}
use Rattle.sqlite_sql.specs.Term.{col, eval_all}
use Rattle.sqlite_sql.specs.Query.{Query, page}
use Rattle.sqlite_sql.specs.Program.{overlay}
use Rattle.sqlite_schema.specs.declared.schema.Schema.{Schema}
use Rattle.sqlite_schema.specs.declared.schema.Keys.TheVariants.{Enforced}
use Rattle.sqlite_rules.specs.Calls.{ids_of}
use Rattle.sqlite_rules.specs.Edit.{edit_of, Applies}
use Rattle.sqlite_rules.specs.Lists.{Has}
use Rattle.sqlite_rules.specs.declared.error.Rowids.TheVariants.{Given}
use Rattle.sqlite_rules.proofs.ListLemmas.{all_from}
use Rattle.sqlite.specs.Effect.{Database}
use Rattle.sqlite.specs.Listing.{understood}
use Rattle.sqlite.specs.State.{State, mode_of, Executes, Shown}
use Rattle.sqlite.proofs.Callers.{reads_as, runs_as, statement_of}
use Rattle.sqltables.specs.Schema.{v2, s9, staged_tree}
use Rattle.sqltables.specs.Tables.{Tables, TablesMean, NoneStaged, IsEmptied}
use Rattle.sqltables.specs.Means.{IsWhole, Holds}
use Rattle.sqltables.proofs.Forms.{query, some_rows, whole_number}
use Rattle.sqltables.proofs.AddedTexts.{any_staged, any_staged_command, any_staged_is, delete_staged, delete_staged_command, delete_staged_is}
use Rattle.sqltables.proofs.Inserts.{plain}
use Rattle.sqltables.proofs.Updates.{deletes}
use Rattle.sqltables.proofs.Ours.{ours_2, staged_at, versions_differ}
use Rattle.sqltables.proofs.Ordered.{arranged}
use Rattle.sqltables.proofs.Queries.{has_permuted}
use Rattle.sqltables.proofs.Restrict.{one_step}
use Rattle.sqltables.proofs.Asked.{no_items}
use Rattle.sqlchanges.proofs.Steps.{Leaves}

-- ---- SELECT

abbrev q : Query
q = query 14 [] (whole_number 1 ∷ []) [] (whole_number 1)

none_there : (rows : List Row) → IsPermutation (filter (λ r. true) rows) [] → rows ≡ []
none_there [] same = refl
none_there (r ∷ rows) same = absurd (has_permuted [] (filter (λ r. true) (r ∷ rows)) r (IsPermutation-sym _ _ same) (inl refl))

any_found : (rows found shown : List Row) → IsPermutation (filter (λ r. true) rows) found → shown ≡ page q [] (map (λ r. eval_all q.project ([] ∷ r ∷ [])) found) → (shown ≡ []) ↔ (rows ≡ [])
any_found rows [] shown same is = (λ none. none_there rows same, λ none. is)
any_found rows (r ∷ found) shown same is = (
  λ none. absurd (let e = sym is ∙ none in cc),
  λ none. absurd (subst (λ l. Has (filter (λ r. true) l) r) none (has_permuted (filter (λ r. true) rows) (r ∷ found) r same (inl refl))),
)

pub any_shown : (old new : State) (rows : List Row) → old.now.schema ≡ s9 → Shown any_staged [] old new rows → (rows ≡ []) ↔ NoneStaged old.now.trees
any_shown old new rows has h =
    let read = reads_as any_staged [] old new s9 has any_staged_command any_staged_is.says.is any_staged_is.says.plain any_staged_is.unlisted rows h in
    let it = arranged 14 [] (whole_number 1 ∷ []) [] (whole_number 1) (overlay old.now.trees []) [] rows (read.answer Null) in
    any_found (old.now.trees 14) it.found rows it.same it.is

-- the answer is whether the list of rows is empty
pub none_told : (b : Bool) (rows : List Row) (P : Type 0) → (b ≡ true → length rows ≡ 0) → (length rows ≡ 0 → b ≡ true) → (rows ≡ []) ↔ P → IsFalse (not b) ↔ P
none_told b rows P empty full both = (
  λ told. both.0 (no_items rows (empty (let e : not (not b) ≡ true = ap not told in sym (not_twice b) ∙ e))),
  λ p. ap not (full (ap length (both.1 p))),
)
  where
    not_twice : (c : Bool) → not (not c) ≡ c
    not_twice true = refl
    not_twice false = refl

-- ---- DELETE

pub deletes_staged : (old new : State) (count : ℕ) → old.now.schema ≡ s9 → Executes delete_staged [] old new (Ok count) → Leaves s9 14 old.now new.now
unfolding IsWhole
deletes_staged old new count has ran =
    let w = runs_as delete_staged [] old new s9 has delete_staged_command delete_staged_is.is delete_staged_is.plain count ran in
    let done = deletes s9 staged_at 8 refl old.step_limit (mode_of old) old.now new.now (some_rows 14 [] (col 1 0 ∷ [])) (statement_of delete_staged (understood s9 delete_staged)) [] w.tally refl has w.changed in
    let edit = edit_of old.now.trees (plain staged_at) (ids_of done.selected) Given 0 [] in
    let applied : Applies s9 Enforced old.now.trees edit new.now.trees = one_step s9 ours_2.restricts old.now.trees new.now.trees edit done.written in
    record { same_schema = done.same_schema; sound = w.sound; stay = ours_2.stay 14 old.now.trees new.now.trees applied.tables }

pub still_holds : (old new : Database) (tables : Tables) → TablesMean v2 old.trees tables → Leaves s9 14 old new → Holds v2 new tables
still_holds old new tables means left =
    let stay = left.stay in
    record {
      schema = left.same_schema;
      sound = left.sound;
      means = record {
        office = rw (stay.office (λ e. omega (arith, e))) means.office;
        keys = rw (stay.keys (λ e. omega (arith, e))) means.keys;
        boxes = rw (stay.boxes (λ e. omega (arith, e))) means.boxes;
        receipts = rw (stay.receipts (λ e. omega (arith, e))) means.receipts;
        files = rw (stay.files (λ e. omega (arith, e))) means.files;
        pieces = rw (stay.pieces (λ e. omega (arith, e))) means.pieces;
        unlimited = λ one. absurd (versions_differ (sym one));
        rules = λ two. rw (stay.rules refl (λ e. omega (arith, e))) (means.rules refl);
        limits = λ two. rw (stay.limits refl (λ e. omega (arith, e))) (means.limits refl);
      };
    }

pub others_stay : (old new : Database) → old.schema ≡ s9 → Leaves s9 14 old new → AllByRecursion (λ t. t.tree ≢ staged_tree → new.trees t.tree ≡ old.trees t.tree) old.schema.tables
others_stay old new has left =
    let stay = left.stay in
    subst (λ (s : Schema). AllByRecursion (λ t. t.tree ≢ staged_tree → new.trees t.tree ≡ old.trees t.tree) s.tables) (sym has)
    (stay.office, (stay.keys, (stay.boxes, (stay.receipts, (stay.files, (stay.pieces, (stay.rules refl, (stay.limits refl, (stay.staged refl, tt)))))))))

-- nothing is staged
pub emptied_itself : (old new : Database) → new ≡ old → NoneStaged old.trees → IsEmptied old new
emptied_itself old new same none = subst (IsEmptied old) (sym same) (record {
  schema = refl;
  others = all_from (λ t. t.tree ≢ staged_tree → old.trees t.tree ≡ old.trees t.tree) old.schema.tables (λ t has other. refl);
  none = none;
})
