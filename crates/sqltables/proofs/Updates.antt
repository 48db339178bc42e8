-- What an UPDATE that keeps each rowid does to a table, as sets of rows.
use Rattle.std.proofs.Common.{◌≡◌, ◌⊎◌, inl, inr, ℕ, ℤ, List, [], ◌∷◌, map, slice_get, Bool, Ordering, Less, Equal, Greater, true, false, Option, None, Some, Ok, refl, sym, ap, subst, ◌∙◌}
use Rattle.std.proofs.lemmas.Bool.{not-true, false_from_ne_true}
use Rattle.std.proofs.lemmas.Cmp.{tied_itself}
use Rattle.std.specs.Ordering.{is_eq}
use Rattle.std.specs.FinMap.{int_cmp-IsAntisymmetric}
use Rattle.sqlite_value.specs.declared.value.Value.TheVariants.{Int}
use Rattle.sqlite_value.specs.Order.{Row, value_cmp}
use Rattle.sqlite_value.proofs.OrderLemmas.{value_cmp_total, value_cmp-Int}
use Rattle.sqlite_trees.specs.Tree.{rowid, has_rowid, without_rowid}
use Rattle.sqlite_sql.specs.Query.{Query}
use Rattle.sqlite_schema.specs.declared.schema.Schema.{Schema}
use Rattle.sqlite_schema.specs.declared.schema.Table.{Table}
use Rattle.sqlite_schema.specs.declared.schema.Keys.{Keys}
use Rattle.sqlite_schema.specs.declared.schema.Keys.TheVariants.{Enforced}
use Rattle.sqlite_rules.specs.Lists.{Has}
use Rattle.sqlite_rules.specs.Calls.{ids_of}
use Rattle.sqlite_rules.specs.Edit.{edit_of, id_in, without_all, put_all, are_fresh}
use Rattle.sqlite_rules.specs.Action.{Writes}
use Rattle.sqlite_rules.specs.declared.error.Rowids.TheVariants.{Given}
use Rattle.sqlite_rules.proofs.ListLemmas.{has_filtered, has_kept}
use Rattle.sqlite_rules.proofs.TableLemmas.{put_all_has, put_all_keeps, put_all_adds, without_all_has}
use Rattle.sqlite_rules.proofs.ProbeLemmas.{has_mapped, mapped_has}
use Rattle.sqlite.specs.declared.run.Mode.{Mode}
use Rattle.sqlite.specs.Command.TheVariants.{Update, Delete}
use Rattle.sqlite.specs.Effect.{Database, Answers}
use Rattle.sqlite.specs.Rows.{Written}
use Rattle.sqlite.specs.Does.{Tally, Does, AtPlace, OnRows}
use Rattle.sqltables.proofs.Rows.{went, same_value}
use Rattle.sqltables.proofs.Inserts.{plain}
pub use Rattle.sqltables.specs.Tables.{HaveRowids}

-- the selected rows, and the edit that changed them
pub record UpdatesRows (schema : Schema) (table : Table) (db : Database) (body : Query) (params : Row) (after : Database) : Type 0 where
  pub selected : List Row
  pub answers : Answers (record { schema = schema; trees = db.trees }) (record { lets = []; body = body }) params selected
  pub written : Writes schema Enforced db.trees (edit_of db.trees table (ids_of selected) Given 1 selected) (Ok after.trees)
  pub same_schema : after.schema ≡ schema

-- the selected rows, and the edit that deleted them
pub record DeletesRows (schema : Schema) (table : Table) (db : Database) (body : Query) (params : Row) (after : Database) : Type 0 where
  pub selected : List Row
  pub answers : Answers (record { schema = schema; trees = db.trees }) (record { lets = []; body = body }) params selected
  pub written : Writes schema Enforced db.trees (edit_of db.trees table (ids_of selected) Given 0 []) (Ok after.trees)
  pub same_schema : after.schema ≡ schema

pub updates : (schema : Schema) (t : Table) (at : ℕ) → slice_get schema.tables at ≡ Some (plain t)
    → (limit : Option ℕ) (mode : Mode) (db after : Database) (body : Query) (text : List ℕ) (params : Row) (tally : Tally) → mode.keys ≡ Enforced → db.schema ≡ schema
    → Does limit mode params db text None (Update at (record { lets = []; body = body })) (Ok (tally, after))
    → UpdatesRows schema (plain t) db body params after
updates schema t at found limit mode base after body text params tally enforced has h =
    let db = base.trees in
    let command = Update at (record { lets = []; body = body }) in
    let run : Schema → Keys → Option Table → Type 0 = λ s k o. AtPlace (λ t. OnRows (record { limit = limit; keys = k; schema = s; table = t; params = params }) mode None command db) o (Ok (tally, after)) in
    let at_schema : run schema mode.keys (slice_get schema.tables at) = subst (λ s. run s mode.keys (slice_get s.tables at)) has h in
    let done = went (subst (λ k. run schema k (Some (plain t))) enforced (subst (run schema mode.keys) found at_schema)) in
    let now : after ≡ record { schema = schema; trees = done.0.trees } = ap (λ (p : Tally × Database). p.1) (same_value (went (went done.2).2).2) in
    let picked = went done.1 in
    let written = went picked.2 in
    let trees : done.0.trees ≡ written.0 = ap (λ (it : Written). it.trees) (same_value written.2) in
    let edit = edit_of db (plain t) (ids_of picked.0) Given 1 picked.0 in
    record {
      selected = picked.0;
      answers = picked.1;
      written = subst (λ t. Writes schema Enforced db edit (Ok t)) (sym trees ∙ ap (λ (d : Database). d.trees) (sym now)) written.1;
      same_schema = ap (λ (d : Database). d.schema) now;
    }

pub deletes : (schema : Schema) (t : Table) (at : ℕ) → slice_get schema.tables at ≡ Some (plain t)
    → (limit : Option ℕ) (mode : Mode) (db after : Database) (body : Query) (text : List ℕ) (params : Row) (tally : Tally) → mode.keys ≡ Enforced → db.schema ≡ schema
    → Does limit mode params db text None (Delete at (record { lets = []; body = body })) (Ok (tally, after))
    → DeletesRows schema (plain t) db body params after
deletes schema t at found limit mode base after body text params tally enforced has h =
    let db = base.trees in
    let command = Delete at (record { lets = []; body = body }) in
    let run : Schema → Keys → Option Table → Type 0 = λ s k o. AtPlace (λ t. OnRows (record { limit = limit; keys = k; schema = s; table = t; params = params }) mode None command db) o (Ok (tally, after)) in
    let at_schema : run schema mode.keys (slice_get schema.tables at) = subst (λ s. run s mode.keys (slice_get s.tables at)) has h in
    let done = went (subst (λ k. run schema k (Some (plain t))) enforced (subst (run schema mode.keys) found at_schema)) in
    let now : after ≡ record { schema = schema; trees = done.0.trees } = ap (λ (p : Tally × Database). p.1) (same_value (went (went done.2).2).2) in
    let picked = went done.1 in
    let written = went picked.2 in
    let trees : done.0.trees ≡ written.0 = ap (λ (it : Written). it.trees) (same_value written.2) in
    let edit = edit_of db (plain t) (ids_of picked.0) Given 0 [] in
    record {
      selected = picked.0;
      answers = picked.1;
      written = subst (λ t. Writes schema Enforced db edit (Ok t)) (sym trees ∙ ap (λ (d : Database). d.trees) (sym now)) written.1;
      same_schema = ap (λ (d : Database). d.schema) now;
    }

-- ---- the rows as a set

without_none : (ids : List ℤ) (rows : List Row) (x : Row) (id : ℤ) → Has (without_all rows ids) x → Has ids id → has_rowid id x ≡ false
without_none [] rows x id h none = absurd none
without_none (i ∷ ids) rows x id h (inl same) = let kept = (has_filtered _ rows x (without_all_has ids (without_rowid i rows) x h)).1 in rw same (not-true _ kept)
without_none (i ∷ ids) rows x id h (inr later) = without_none ids (without_rowid i rows) x id h later

without_keeps : (ids : List ℤ) (rows : List Row) (x : Row) → Has rows x → ((id : ℤ) → Has ids id → has_rowid id x ≡ false) → Has (without_all rows ids) x
without_keeps [] rows x h none = h
without_keeps (i ∷ ids) rows x h none = without_keeps ids (without_rowid i rows) x (has_kept _ rows x h (rw (none i (inl refl)))) (λ id has. none id (inr has))

own_rowid : (x : Row) (n : ℤ) → rowid x ≡ Int n → has_rowid n x ≡ true
own_rowid x n is = rw (is, tied_itself value_cmp_total (Int n))

is_equal : (o : Ordering) → is_eq o ≡ true → o ≡ Equal
is_equal Less h = cc
is_equal Equal h = refl
is_equal Greater h = cc

rowid_is : (x : Row) (m n : ℤ) → rowid x ≡ Int n → has_rowid m x ≡ true → n ≡ m
rowid_is x m n is h = int_cmp-IsAntisymmetric n m (sym (value_cmp-Int n m) ∙ is_equal (value_cmp (Int n) (Int m)) (rw is at h))

-- Rows that pass a test are replaced, and the others stay.
pub record RowsChange (rows after : List Row) (p : Row → Bool) (upd : Row → Row) : Type 0 where
  pub each : (x : Row) → Has after x → (Has rows x × (p x ≡ false)) ⊎ ((r : Row) × Has rows r × (p r ≡ true) × (x ≡ upd r))
  pub stays : (r : Row) → Has rows r → p r ≡ false → Has after r
  pub changed : (r : Row) → Has rows r → p r ≡ true → Has after (upd r)

-- Rows that pass a test are deleted, and the others stay.
pub record RowsGo (rows after : List Row) (p : Row → Bool) : Type 0 where
  pub each : (x : Row) → Has after x → Has rows x × (p x ≡ false)
  pub stays : (r : Row) → Has rows r → p r ≡ false → Has after r

-- the rows that pass, each shown by the same function, which keeps the rowid
pub record AreSelected (rows selected : List Row) (p : Row → Bool) (show : Row → Row) : Type 0 where
  pub sound : (s : Row) → Has selected s → (r : Row) × Has rows r × (p r ≡ true) × (s ≡ show r)
  pub complete : (r : Row) → Has rows r → p r ≡ true → Has selected (show r)
  pub keeps : (r : Row) → rowid (show r) ≡ rowid r

module _ (rows selected : List Row) (p : Row → Bool) (show : Row → Row) (apart : HaveRowids rows) (are : AreSelected rows selected p show) where
  -- a selected rowid belongs to a row that passes
  selected_id : (id : ℤ) → Has (ids_of selected) id → (r : Row) × Has rows r × (p r ≡ true) × (rowid r ≡ Int id)
  selected_id id has =
      let s = has_mapped (λ (r : Row). id_in (rowid r)) selected id has in
      let r = are.sound s.0 s.1 in
      let n = apart.keyed r.0 r.1 in
      let same : rowid s.0 ≡ Int n.0 = ap rowid r.3 ∙ are.keeps r.0 ∙ n.1 in
      (r.0, r.1, r.2, n.1 ∙ ap Int (sym (s.2 ∙ ap id_in same)))

  kept_if_failing : (r : Row) → Has rows r → p r ≡ false → (id : ℤ) → Has (ids_of selected) id → has_rowid id r ≡ false
  kept_if_failing r has fails id there = false_from_ne_true (has_rowid id r) (λ same.
      let it = selected_id id there in
      let n = apart.keyed r has in
      let one : r ≡ it.0 = apart.apart r it.0 has it.1 (n.1 ∙ ap Int (rowid_is r id n.0 n.1 same) ∙ sym it.3) in
      absurd (let e = sym it.2 ∙ ap p (sym one) ∙ fails in cc))

  pub rows_change : (cast : Row → Row) (after : List Row) → are_fresh (without_all rows (ids_of selected)) (map cast selected) ≡ true → after ≡ put_all (without_all rows (ids_of selected)) (map cast selected)
      → RowsChange rows after p (λ r. cast (show r))
  rows_change cast after fresh is =
      let left = without_all rows (ids_of selected) in
      let news = map cast selected in
      let is_in : (x : Row) → Has (put_all left news) x → Has after x = λ x. subst (λ l. Has l x) (sym is) in
      record {
        each = λ x has. elim (put_all_has news left x (subst (λ l. Has l x) is has)) [
          | inl new ↦ let s = has_mapped cast selected x new in let r = are.sound s.0 s.1 in inr (r.0, r.1, r.2, s.2 ∙ ap cast r.3)
          | inr was ↦
              let there = without_all_has (ids_of selected) rows x was in
              inl (
                there,
                false_from_ne_true (p x) (λ passes.
                    let n = apart.keyed x there in
                    let id : Has (ids_of selected) n.0 = subst (Has (ids_of selected)) (ap id_in (are.keeps x ∙ n.1)) (mapped_has (λ (r : Row). id_in (rowid r)) selected (show x) (are.complete x there passes)) in
                    absurd (let e = sym (own_rowid x n.0 n.1) ∙ without_none (ids_of selected) rows x n.0 was id in cc)),
              )
        ];
        stays = λ r has fails. is_in r (put_all_keeps news left r fresh (without_keeps (ids_of selected) rows r has (kept_if_failing r has fails)));
        changed = λ r has passes. is_in (cast (show r)) (put_all_adds news left (cast (show r)) fresh (mapped_has cast selected (show r) (are.complete r has passes)));
      }

  -- a row that remains does not pass
  left_fails : (x : Row) → Has (without_all rows (ids_of selected)) x → Has rows x → p x ≡ false
  left_fails x was there = false_from_ne_true (p x) (λ passes.
      let n = apart.keyed x there in
      let id : Has (ids_of selected) n.0 = subst (Has (ids_of selected)) (ap id_in (are.keeps x ∙ n.1)) (mapped_has (λ (r : Row). id_in (rowid r)) selected (show x) (are.complete x there passes)) in
      absurd (let e = sym (own_rowid x n.0 n.1) ∙ without_none (ids_of selected) rows x n.0 was id in cc))

  pub rows_go : (after : List Row) → after ≡ without_all rows (ids_of selected) → RowsGo rows after p
  rows_go after is = record {
    each = λ x has. let was = subst (λ l. Has l x) is has in let there = without_all_has (ids_of selected) rows x was in (there, left_fails x was there);
    stays = λ r has fails. subst (λ l. Has l r) (sym is) (without_keeps (ids_of selected) rows r has (kept_if_failing r has fails));
  }
