-- What an INSERT with VALUES does to any table without AUTOINCREMENT.
use Rattle.std.proofs.Common.{◌≡◌, ℕ, List, [], ◌/◌, length, slice_get, false, Option, None, Some, Ok, sym, ap, subst, ◌∙◌}
use Rattle.sqlite_value.specs.Order.{Row}
use Rattle.sqlite_trees.specs.Tree.{Trees}
use Rattle.sqlite_sql.specs.Term.{Term}
use Rattle.sqlite_schema.specs.declared.schema.Schema.{Schema}
use Rattle.sqlite_schema.specs.declared.schema.Table.{Table}
use Rattle.sqlite_schema.specs.declared.schema.Keys.{Keys}
use Rattle.sqlite_schema.specs.declared.schema.Keys.TheVariants.{Enforced}
use Rattle.sqlite.specs.declared.run.Mode.{Mode}
use Rattle.sqlite_rules.specs.Edit.{Edit, edit_of, Applies}
use Rattle.sqlite_rules.specs.declared.error.Rowids.TheVariants.{Chosen}
use Rattle.sqlite_rules.proofs.ActionLemmas.{no_works}
use Rattle.sqlite.specs.Command.TheVariants.{Insert}
use Rattle.sqlite.specs.Source.TheVariants.{Values, Query as FromQuery}
use Rattle.sqlite_sql.specs.Query.{Query}
use Rattle.sqlite.specs.Effect.{Database, Answers, value_rows}
use Rattle.sqlite.specs.Rows.{Written, stamped}
use Rattle.sqlite.specs.Does.{Tally, Does, AtPlace, OnRows}
use Rattle.sqlite.proofs.Callers.{one_step}
use Rattle.sqltables.proofs.Rows.{went, same_value}

-- the rows of VALUES were inserted, and the schema is unchanged
pub record InsertsRows (schema : Schema) (table : Table) (db : Trees) (after : Database) (sources : List Row) : Type 0 where
  pub same_schema : after.schema ≡ schema
  pub applied : Applies schema Enforced db (edit_of db table [] Chosen 0 sources) after.trees

-- a table without AUTOINCREMENT, written so that the flag computes
abbrev pub plain : Table → Table
plain t = record t { is_counted = false }

pub inserts : (schema : Schema) (t : Table) (at : ℕ) → slice_get schema.tables at ≡ Some (plain t)
    → (limit : Option ℕ) (mode : Mode) (db after : Database) (terms : List Term) (width : ℕ) (text : List ℕ) (params : Row) (tally : Tally) → mode.keys ≡ Enforced → db.schema ≡ schema
    → Does limit mode params db text None (Insert at (Values terms width)) (Ok (tally, after))
    → InsertsRows schema (plain t) db.trees after (value_rows (stamped (plain t) params) width (length terms / width) terms)
inserts schema t at found limit mode base after terms width text params tally enforced has h =
    let db = base.trees in
    let command = Insert at (Values terms width) in
    let run : Schema → Keys → Option Table → Type 0 = λ s k o. AtPlace (λ t. OnRows (record { limit = limit; keys = k; schema = s; table = t; params = params }) mode None command db) o (Ok (tally, after)) in
    let at_schema : run schema mode.keys (slice_get schema.tables at) = subst (λ s. run s mode.keys (slice_get s.tables at)) has h in
    let done = went (subst (λ k. run schema k (Some (plain t))) enforced (subst (run schema mode.keys) found at_schema)) in
    let now : after ≡ record { schema = schema; trees = done.0.trees } = ap (λ (p : Tally × Database). p.1) (same_value (went (went done.2).2).2) in
    let given = went done.1 in
    let written = went (went given.2).2 in
    let counted = went written.2 in
    let trees : done.0.trees ≡ written.0 = ap (λ (it : Written). it.trees) (same_value counted.2) ∙ same_value counted.1 in
    let sources = value_rows (stamped (plain t) params) width (length terms / width) terms in
    let edit : List Row → Edit = edit_of db (plain t) [] Chosen 0 in
    let applied : Applies schema Enforced db (edit given.0) written.0 = one_step schema Enforced db written.0 (edit given.0) (no_works schema Enforced 0 t.tree (edit given.0).news) written.1 in
    let same : Applies schema Enforced db (edit sources) written.0 = subst (λ rows. Applies schema Enforced db (edit rows) written.0) given.1.1 applied in
    record { same_schema = ap (λ (d : Database). d.schema) now; applied = subst (Applies schema Enforced db (edit sources)) (sym trees ∙ ap (λ (d : Database). d.trees) (sym now)) same }

-- ---- INSERT of the rows that a query shows

pub record InsertsShown (schema : Schema) (table : Table) (db : Database) (body : Query) (params : Row) (after : Database) : Type 0 where
  pub shown : List Row
  pub answers : Answers (record { schema = schema; trees = db.trees }) (record { lets = []; body = body }) (stamped table params) shown
  pub same_schema : after.schema ≡ schema
  pub applied : Applies schema Enforced db.trees (edit_of db.trees table [] Chosen 0 shown) after.trees

pub inserts_shown : (schema : Schema) (t : Table) (at : ℕ) → slice_get schema.tables at ≡ Some (plain t)
    → (limit : Option ℕ) (mode : Mode) (db after : Database) (body : Query) (text : List ℕ) (params : Row) (tally : Tally) → mode.keys ≡ Enforced → db.schema ≡ schema
    → Does limit mode params db text None (Insert at (FromQuery (record { lets = []; body = body }))) (Ok (tally, after))
    → InsertsShown schema (plain t) db body params after
inserts_shown schema t at found limit mode base after body text params tally enforced has h =
    let db = base.trees in
    let command = Insert at (FromQuery (record { lets = []; body = body })) in
    let run : Schema → Keys → Option Table → Type 0 = λ s k o. AtPlace (λ t. OnRows (record { limit = limit; keys = k; schema = s; table = t; params = params }) mode None command db) o (Ok (tally, after)) in
    let at_schema : run schema mode.keys (slice_get schema.tables at) = subst (λ s. run s mode.keys (slice_get s.tables at)) has h in
    let done = went (subst (λ k. run schema k (Some (plain t))) enforced (subst (run schema mode.keys) found at_schema)) in
    let now : after ≡ record { schema = schema; trees = done.0.trees } = ap (λ (p : Tally × Database). p.1) (same_value (went (went done.2).2).2) in
    let given = went done.1 in
    let written = went (went given.2).2 in
    let counted = went written.2 in
    let trees : done.0.trees ≡ written.0 = ap (λ (it : Written). it.trees) (same_value counted.2) ∙ same_value counted.1 in
    let edit : Edit = edit_of db (plain t) [] Chosen 0 given.0 in
    let applied : Applies schema Enforced db edit written.0 = one_step schema Enforced db written.0 edit (no_works schema Enforced 0 t.tree edit.news) written.1 in
    record {
      shown = given.0;
      answers = given.1;
      same_schema = ap (λ (d : Database). d.schema) now;
      applied = subst (Applies schema Enforced db edit) (sym trees ∙ ap (λ (d : Database). d.trees) (sym now)) applied;
    }
