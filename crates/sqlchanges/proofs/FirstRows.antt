-- What CREATE TABLE makes of tables without rows, and what inserting the office's row makes of those of version 1.
use Rattle.std.proofs.Common.{◌≡◌, ℕ, ℤ, pos, List, [], ◌∷◌, ◌++◌, map, drop, None, Some, Ok, false, inl, arith, refl, sym, ap, subst, ◌∙◌}
use Rattle.std.specs.List.{AllByRecursion}
use Rattle.sqlite_value.specs.declared.value.Value.TheVariants.{Null, Int}
use Rattle.sqlite_value.specs.Order.{Row}
use Rattle.sqlite_trees.specs.Tree.{Trees}
use Rattle.sqlite_schema.specs.declared.schema.Schema.{Schema}
use Rattle.sqlite_schema.specs.declared.schema.Table.{Table}
use Rattle.sqlite_catalog.specs.Change.{created, next_tree, KeepsRows}
use Rattle.sqlite_rules.specs.Edit.{numbered}
use Rattle.sqlite_rules.specs.Cast.{cast_row}
use Rattle.sqlite_rules.specs.declared.error.Rowids.TheVariants.{Chosen}
use Rattle.sqlite.specs.Command.TheVariants.{CreateTable}
use Rattle.sqlite.specs.Effect.{Database}
use Rattle.sqlite.specs.Does.{Tally, lacks_sequence}
use Rattle.sqlite.specs.State.{State, Writes, Executes}
use Rattle.sqlite.specs.Term.{Term, lit, col}
use Rattle.sqlite.proofs.Callers.{runs_as}
use Rattle.sqltables.specs.Schema.{office_table, s6, v1}
use Rattle.sqltables.specs.Tables.{RowsMean, IsOfficeRow}
use Rattle.sqltables.specs.Changes.{no_rows}
use Rattle.sqltables.specs.Means.{Holds, HoldsNothing}
use Rattle.sqltables.proofs.Says.{Makes}
use Rattle.sqltables.proofs.Forms.{whole_number}
use Rattle.sqltables.proofs.AddedTexts.{insert_office, insert_office_is}
use Rattle.sqltables.proofs.Ours.{ours_1, versions_differ}
use Rattle.sqltables.proofs.Rows.{went, same_value, cast_null, cast_int}
use Rattle.sqltables.proofs.Maps.{means_put, Adds}
use Rattle.sqlchanges.proofs.Steps.{inserts_row}

-- the table exists and is empty, and the other tables are unchanged
pub record MakesTable (schema : Schema) (table : Table) (old new : Database) : Type 0 where
  pub now_is : new.schema ≡ created schema table
  pub empty : new.trees (next_tree schema) ≡ []
  pub others : KeepsRows schema.tables old.trees new.trees

pub makes : (schema : Schema) (table : Table) (text : List ℕ) (old new : State) (count : ℕ) → old.now.schema ≡ schema → Makes schema text table → lacks_sequence (created schema table) ≡ false
    → Writes old new None CreateTable text [] count → MakesTable schema table old.now new.now
makes schema table text old new count has making plain w =
    let all = went w.changed in
    let first = went all.1 in
    let made = first.1 in
    let both : Ok made.table ≡ Ok table = sym made.defined ∙ making.defines in
    let same : made.table ≡ table = cc in
    let is : first.0.schema ≡ created schema table = made.is ∙ ap (λ s. created s made.table) has ∙ ap (created schema) same in
    let lacks : lacks_sequence first.0.schema ≡ false = ap lacks_sequence is ∙ plain in
    let now : new.now ≡ first.0 = ap (λ (p : Tally × Database). p.1) (same_value all.2) ∙ same_value (rw lacks at first.2) in
    record {
      now_is = ap (λ (d : Database). d.schema) now ∙ is;
      empty = ap (λ (d : Database). d.trees (next_tree schema)) now ∙ subst (λ s. first.0.trees (next_tree s) ≡ []) has made.empty;
      others = subst (λ (d : Database). KeepsRows schema.tables old.now.trees d.trees) (sym now) (subst (λ s. KeepsRows s.tables old.now.trees first.0.trees) has made.others);
    }

-- the tables that were empty stay empty, and so is the new one
all_empty : (db after : Trees) (tables : List Table) (new : Table) → AllByRecursion (λ t. db t.tree ≡ []) tables → KeepsRows tables db after → after new.tree ≡ []
    → AllByRecursion (λ t. after t.tree ≡ []) (tables ++ new ∷ [])
all_empty db after [] new were keeps is = (is, tt)
all_empty db after (t ∷ ts) new were keeps is = (keeps.0 ∙ were.0, all_empty db after ts new were.1 keeps.1 is)

pub makes_empty : (schema : Schema) (table : Table) (text : List ℕ) → Makes schema text table → lacks_sequence (created schema table) ≡ false
    → (old new : State) (count : ℕ) → HoldsNothing schema old.now → Executes text [] old new (Ok count) → HoldsNothing (created schema table) new.now
makes_empty schema table text making plain old new count nothing ran =
    let w = subst (λ t. Writes old new None CreateTable t [] count) making.whole (runs_as text [] old new schema nothing.schema_is CreateTable making.says.is making.says.plain count ran) in
    let made = makes schema table text old new count nothing.schema_is making plain w in
    record { schema_is = made.now_is; empty = all_empty old.now.trees new.now.trees schema.tables (record table { tree = next_tree schema }) nothing.empty made.others made.empty }

-- ---- the row of the office

abbrev pub office_at : Table
office_at = record office_table { tree = 0 }

abbrev office_row : ℤ → Row
office_row east = Int (pos 1) ∷ Null ∷ Int (pos 1) ∷ Int east ∷ []

abbrev terms : List Term
terms = whole_number 1 ∷ lit Null ∷ whole_number 1 ∷ col 0 0 ∷ []

news_are : (rows : List Row) (east : ℤ) → numbered Chosen rows (map (λ s. cast_row office_at (drop 0 s)) (office_row east ∷ [])) ≡ office_row east ∷ []
news_are rows east = rw (cast_null, cast_int (pos 1), cast_int east)

pub none_mean : {K V : Type 0} {IsRow : Row → K → V → Type 0} (rows : List Row) → rows ≡ [] → RowsMean IsRow (λ k. None) rows
none_mean rows empty = rw empty (record { each = λ row has. absurd has; all = λ k v some. absurd (let e = some in cc); keyed = λ row has. absurd has; apart = λ a b has. absurd has })

-- the only entry of a map that had none
pub adds_one : {V : Type 0} (v : V) → Adds {K = Unit {0}} (λ one. None) (λ one. Some v) tt v
adds_one v = record { here = refl; still = λ q w some. absurd (let e = some in cc); either = λ q w some. inl (refl, let e = some in cc) }

pub puts_office : (old new : State) (count : ℕ) (east : ℤ) → HoldsNothing s6 old.now → Executes insert_office (Int east ∷ []) old new (Ok count) → Holds v1 new.now (no_rows east 0)
puts_office old new count east nothing ran =
    let rows = old.now.trees 0 in
    let row = office_row east in
    let done = inserts_row s6 ours_1 office_at 0 refl insert_office (Int east ∷ []) old new count (λ db. refl) nothing.schema_is ran terms 4 insert_office_is row (news_are rows east) in
    let one : RowsMean (IsOfficeRow (pos 1)) (λ one. Some east) (new.now.trees 0) = rw done.1.is
    (means_put (λ one. Some east) rows row tt east (pos 1) (none_mean rows nothing.empty.0) (record { id_is = refl; version_is = refl; east_is = refl }) refl (adds_one east) done.1.fresh) in
    let stay = done.0.stay in
    let empty = nothing.empty.1 in
    record {
      schema = done.0.same_schema;
      sound = done.0.sound;
      means = record {
        office = one;
        keys = none_mean (new.now.trees 1) (stay.keys (λ e. omega (arith, e)) ∙ empty.0);
        boxes = none_mean (new.now.trees 3) (stay.boxes (λ e. omega (arith, e)) ∙ empty.1.0);
        receipts = none_mean (new.now.trees 5) (stay.receipts (λ e. omega (arith, e)) ∙ empty.1.1.0);
        files = none_mean (new.now.trees 6) (stay.files (λ e. omega (arith, e)) ∙ empty.1.1.1.0);
        pieces = none_mean (new.now.trees 9) (stay.pieces (λ e. omega (arith, e)) ∙ empty.1.1.1.1.0);
        unlimited = λ one. (refl, λ limit. refl);
        rules = λ two. absurd (versions_differ two);
        limits = λ two. absurd (versions_differ two);
      };
    }
