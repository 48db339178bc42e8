-- What an office of version 1 becomes, statement by statement, until it is one of version 2.
use Rattle.std.proofs.Common.{◌≡◌, inl, ℕ, ℤ, pos, List, [], ◌∷◌, map, drop, Option, true, None, Some, Ok, false, arith, refl, sym, ap, subst, ◌∙◌}
use Rattle.std.specs.Prelude.{option_map}
use Rattle.std.specs.List.{AllByRecursion, list_all}
use Rattle.sqlite_value.specs.declared.value.Value.TheVariants.{Null, Int}
use Rattle.sqlite_value.specs.Order.{Row}
use Rattle.sqlite_trees.specs.Tree.{Trees}
use Rattle.sqlite_sql.specs.Term.{holds, eval_all}
use Rattle.sqlite_schema.specs.declared.schema.Kind.TheVariants.{Integer}
use Rattle.sqlite_schema.specs.declared.schema.Schema.{Schema}
use Rattle.sqlite_schema.specs.declared.schema.Table.{Table}
use Rattle.sqlite_catalog.specs.Change.{created, next_tree, KeepsRows}
use Rattle.sqlite_rules.specs.Edit.{numbered}
use Rattle.sqlite_rules.specs.Cast.{cast_row, cast}
use Rattle.sqlite_rules.specs.declared.error.Rowids.TheVariants.{Chosen}
use Rattle.sqlite.specs.Command.TheVariants.{CreateTable}
use Rattle.sqlite.specs.Does.{lacks_sequence}
use Rattle.sqlite.specs.State.{State, Writes, Executes}
use Rattle.sqlite.specs.Term.{Term, lit, col}
use Rattle.sqlite.proofs.Callers.{runs_as}
use Rattle.sqltables.specs.Schema.{Version, v1, v2, s6, s7, s8, s9, rules_table, key_box_table, staged_table}
use Rattle.sqltables.specs.Tables.{Tables, TablesMean, RowsMean, IsOfficeRow, IsRulesRow, IsUnlimited, NoneStaged}
use Rattle.sqltables.specs.Changes.{with_allowance}
use Rattle.sqltables.specs.Means.{IsWhole, Holds, HoldsMore, HoldsRules, AddsTable}
use Rattle.sqltables.proofs.Says.{Makes}
use Rattle.sqltables.proofs.Forms.{whole_number}
use Rattle.sqltables.proofs.AddedTexts.{insert_rules, insert_rules_is, update_version, update_version_is}
use Rattle.sqltables.proofs.Ours.{OthersStay, ours_2, rules_at, versions_differ}
use Rattle.sqltables.proofs.Rows.{cast_null, cast_int}
use Rattle.sqltables.proofs.Updates.{RowsChange}
use Rattle.sqltables.proofs.Maps.{means_put, means_update, Hits, Sets}
use Rattle.sqlchanges.proofs.Steps.{Leaves, inserts_row, updates_rows}
use Rattle.sqlchanges.proofs.FirstRows.{makes, none_mean, adds_one, office_at}
use Rattle.sqlchanges.proofs.Creates.{create_rules, makes_rules, create_key_box, makes_key_box, create_staged, makes_staged}

-- an office under a schema, with a row that says version 1
abbrev moving : Schema → Version
moving schema = record { number = pos 1; schema = schema }

not_second : (schema : Schema) → moving schema ≡ v2 → ⊥
not_second schema same = let n : ◌≡◌ {A = ℤ} (pos 1) (pos 2) = ap (λ (v : Version). v.number) same in absurd cc

-- ---- the rows of version 1 stay

record SixStay (db after : Trees) : Type 0 where
  office : after 0 ≡ db 0
  keys : after 1 ≡ db 1
  boxes : after 3 ≡ db 3
  receipts : after 5 ≡ db 5
  files : after 6 ≡ db 6
  pieces : after 9 ≡ db 9

six_mean : (a b : Schema) (tables : Tables) (db after : Trees) → IsUnlimited tables → TablesMean (moving a) db tables → SixStay db after → TablesMean (moving b) after tables
six_mean a b tables db after unlimited means stay = record {
  office = rw stay.office means.office;
  keys = rw stay.keys means.keys;
  boxes = rw stay.boxes means.boxes;
  receipts = rw stay.receipts means.receipts;
  files = rw stay.files means.files;
  pieces = rw stay.pieces means.pieces;
  unlimited = λ one. unlimited;
  rules = λ two. absurd (not_second b two);
  limits = λ two. absurd (not_second b two);
}

-- ---- creating a table

still_empty : (empty : List ℕ) (db after : Trees) → AllByRecursion (λ t. db t ≡ []) empty → AllByRecursion (λ t. after t ≡ db t) empty → AllByRecursion (λ t. after t ≡ []) empty
still_empty [] db after none keeps = tt
still_empty (t ∷ ts) db after none keeps = (keeps.0 ∙ none.0, still_empty ts db after none.1 keeps.1)

-- six, rest: about the tables that stay, by the schema
adds_table : (before : Schema) (table : Table) (text : List ℕ) → Makes before text table → lacks_sequence (created before table) ≡ false → (empty : List ℕ)
    → (six : (db after : Trees) → KeepsRows before.tables db after → SixStay db after) → (rest : (db after : Trees) → KeepsRows before.tables db after → AllByRecursion (λ t. after t ≡ db t) empty)
    → (tables : Tables) (old new : State) → AddsTable text before (created before table) empty (next_tree before ∷ empty) tables old new
unfolding IsWhole
adds_table before table text making plain empty six rest tables old new count has ran =
    let w = subst (λ t. Writes old new None CreateTable t [] count) making.whole (runs_as text [] old new before has.holds.schema CreateTable making.says.is making.says.plain count ran) in
    let made = makes before table text old new count has.holds.schema making plain w in
    record {
      holds = record {
        schema = made.now_is;
        sound = w.sound;
        means = six_mean before (created before table) tables old.now.trees new.now.trees has.unlimited has.holds.means (six old.now.trees new.now.trees made.others);
      };
      unlimited = has.unlimited;
      none = (made.empty, still_empty empty old.now.trees new.now.trees has.none (rest old.now.trees new.now.trees made.others));
    }

pub adds_rules : (tables : Tables) (old new : State) → AddsTable create_rules s6 s7 [] (11 ∷ []) tables old new
adds_rules = adds_table s6 rules_table create_rules makes_rules refl []
    (λ db after k. record { office = k.0; keys = k.1.0; boxes = k.1.1.0; receipts = k.1.1.1.0; files = k.1.1.1.1.0; pieces = k.1.1.1.1.1.0 })
    (λ db after k. tt)

pub adds_limits : (tables : Tables) (old new : State) → AddsTable create_key_box s7 s8 (11 ∷ []) (12 ∷ 11 ∷ []) tables old new
adds_limits = adds_table s7 key_box_table create_key_box makes_key_box refl (11 ∷ [])
    (λ db after k. record { office = k.0; keys = k.1.0; boxes = k.1.1.0; receipts = k.1.1.1.0; files = k.1.1.1.1.0; pieces = k.1.1.1.1.1.0 })
    (λ db after k. (k.1.1.1.1.1.1.0, tt))

pub adds_staged : (tables : Tables) (old new : State) → AddsTable create_staged s8 s9 (12 ∷ 11 ∷ []) (14 ∷ 12 ∷ 11 ∷ []) tables old new
adds_staged = adds_table s8 staged_table create_staged makes_staged refl (12 ∷ 11 ∷ [])
    (λ db after k. record { office = k.0; keys = k.1.0; boxes = k.1.1.0; receipts = k.1.1.1.0; files = k.1.1.1.1.0; pieces = k.1.1.1.1.1.0 })
    (λ db after k. (k.1.1.1.1.1.1.1.0, (k.1.1.1.1.1.1.0, tt)))

pub begins_more : (tables : Tables) (db : _) → Holds v1 db tables → HoldsMore s6 [] tables db
begins_more tables db has = record { holds = has; unlimited = has.means.unlimited refl; none = tt }

-- ---- the row of the rules

abbrev rules_row : ℕ → Row
rules_row seconds = Int (pos 1) ∷ Null ∷ Int (pos seconds) ∷ []

abbrev rules_terms : List Term
rules_terms = whole_number 1 ∷ lit Null ∷ col 0 0 ∷ []

rules_are : (rows : List Row) (seconds : ℕ) → numbered Chosen rows (map (λ s. cast_row rules_at (drop 0 s)) (rules_row seconds ∷ [])) ≡ rules_row seconds ∷ []
rules_are rows seconds = rw (cast_null, cast_int (pos 1), cast_int (pos seconds))

six_of : (tree : ℕ) (db after : Trees) → (tree ≡ 11) → OthersStay s9 tree db after → SixStay db after
six_of tree db after is stay = record {
  office = stay.office (λ e. omega (arith, e, is));
  keys = stay.keys (λ e. omega (arith, e, is));
  boxes = stay.boxes (λ e. omega (arith, e, is));
  receipts = stay.receipts (λ e. omega (arith, e, is));
  files = stay.files (λ e. omega (arith, e, is));
  pieces = stay.pieces (λ e. omega (arith, e, is));
}

pub puts_rules : (old new : State) (count : ℕ) (tables : Tables) (seconds : ℕ) → HoldsMore s9 (14 ∷ 12 ∷ 11 ∷ []) tables old.now → Executes insert_rules (Int (pos seconds) ∷ []) old new (Ok count)
    → HoldsRules tables seconds new.now
puts_rules old new count tables seconds has ran =
    let rows = old.now.trees 11 in
    let row = rules_row seconds in
    let done = inserts_row s9 ours_2 rules_at 6 refl insert_rules (Int (pos seconds) ∷ []) old new count (λ db. refl) has.holds.schema ran rules_terms 3 insert_rules_is row (rules_are rows seconds) in
    let rules : RowsMean IsRulesRow (λ one. Some seconds) (new.now.trees 11) = rw done.1.is
    (means_put (λ one. Some seconds) rows row tt seconds (pos 1) (none_mean rows has.none.1.1.0) (record { id_is = refl; allowance_is = refl }) refl (adds_one seconds) done.1.fresh) in
    record {
      holds = record {
        schema = done.0.same_schema;
        sound = done.0.sound;
        means = six_mean s9 s9 tables old.now.trees new.now.trees has.unlimited has.holds.means (six_of 11 old.now.trees new.now.trees refl done.0.stay);
      };
      unlimited = has.unlimited;
      rules = rules;
      none = done.0.stay.limits refl (λ e. omega (arith, e)) ∙ has.none.1.0;
      unstaged = done.0.stay.staged refl (λ e. omega (arith, e)) ∙ has.none.0;
    }

-- ---- the office's row says version 2

-- the office's row, with the version as part of its value
abbrev IsVersioned : Row → Unit {0} → ℤ × ℤ → Type 0
IsVersioned row one v = IsOfficeRow v.0 row one v.1

abbrev second : ℤ × ℤ → ℤ × ℤ
second v = (pos 2, v.1)

abbrev set_terms : List Term
set_terms = col 1 0 ∷ lit Null ∷ whole_number 2 ∷ col 1 3 ∷ []

abbrev moved : Row → Row
moved r = cast_row office_at (eval_all set_terms ([] ∷ r ∷ []))

number : {n : ℤ} {v : _} → v ≡ Int n → cast Integer v ≡ Int n
number {n} e = ap (cast Integer) e ∙ cast_int n

hits_office : Hits IsVersioned (λ r. list_all (holds ([] ∷ r ∷ [])) []) moved tt second
hits_office = record {
  hit = λ r q v is passes. refl;
  miss = λ r q v is fails same. let e : ◌≡◌ true false = fails in cc;
  moved = λ r v is. record { id_is = number is.id_is; version_is = cast_int (pos 2); east_is = number is.east_is };
  keeps = λ r n is. number is;
}

with_version : (n offset : ℤ) (rows : List Row) → RowsMean (IsOfficeRow n) (λ one. Some offset) rows → RowsMean IsVersioned (λ one. Some (n, offset)) rows
with_version n offset rows means = record {
  each = λ row has. let e = means.each row has in (tt, (n, e.1), e.2, ap (option_map (λ (o : ℤ). (n, o))) e.3);
  all = λ k v some. let same : (n, offset) ≡ v = cc in let r = means.all tt offset refl in (r.0, r.1, subst (λ p. IsVersioned r.0 tt p) same r.2);
  keyed = means.keyed;
  apart = means.apart;
}

without_version : (n offset : ℤ) (rows : List Row) → RowsMean IsVersioned (λ one. Some (n, offset)) rows → RowsMean (IsOfficeRow n) (λ one. Some offset) rows
without_version n offset rows means = record {
  each = λ row has.
      let e = means.each row has in
      let same : (n, offset) ≡ e.1 = let both = e.3 in cc in
      (tt, offset, subst (λ p. IsVersioned row tt p) (sym same) e.2, refl);
  all = λ k v some. let same : offset ≡ v = cc in let r = means.all tt (n, offset) refl in (r.0, r.1, subst (IsOfficeRow n r.0 tt) same r.2);
  keyed = means.keyed;
  apart = means.apart;
}

sets_second : (offset : ℤ) → Sets {K = Unit {0}} (λ one. Some (pos 1, offset)) (λ one. Some (pos 2, offset)) tt second
sets_second offset = record {
  here = λ v some. let same : (pos 1, offset) ≡ v = cc in ap (λ (p : ℤ × ℤ). Some (pos 2, p.1)) same;
  back = λ w some. ((pos 1, offset), refl, let same : (pos 2, offset) ≡ w = cc in sym same);
  other = λ q apart. absurd (apart refl);
  decide = λ q. inl refl;
}

none_of : {K V : Type 0} {IsRow : Row → K → V → Type 0} (lookup : K → Option V) (rows : List Row) → ((k : K) → lookup k ≡ None) → rows ≡ [] → RowsMean IsRow lookup rows
none_of lookup rows none empty = rw empty (record {
  each = λ row has. absurd has;
  all = λ k v some. absurd (let e = sym (none k) ∙ some in cc);
  keyed = λ row has. absurd has;
  apart = λ a b has. absurd has;
})

module _ (old new : State) (count : ℕ) (tables : Tables) (seconds : ℕ) (has : HoldsRules tables seconds old.now) (ran : Executes update_version [] old new (Ok count)) where
  versioned : Leaves s9 0 old.now new.now × RowsChange (old.now.trees 0) (new.now.trees 0) (λ r. list_all (holds ([] ∷ r ∷ [])) []) moved
  versioned =
      let means = has.holds.means in
      updates_rows s9 ours_2 office_at 0 refl update_version [] old new count (λ db. refl) has.holds.schema ran [] set_terms update_version_is (record { keyed = means.office.keyed; apart = means.office.apart })

  pub moves_version : Holds v2 new.now (with_allowance tables seconds)
  moves_version =
      let means = has.holds.means in
      let rows = old.now.trees 0 in
      let done = versioned in
      let office = means_update (λ one. Some (pos 2, tables.offset)) rows (new.now.trees 0) (λ r. list_all (holds ([] ∷ r ∷ [])) []) moved tt second
      (with_version (pos 1) tables.offset rows means.office) done.1 hits_office (sets_second tables.offset) in
      let stay = done.0.stay in
      record {
        schema = done.0.same_schema;
        sound = done.0.sound;
        means = record {
          office = without_version (pos 2) tables.offset (new.now.trees 0) office;
          keys = rw (stay.keys (λ e. omega (arith, e))) means.keys;
          boxes = rw (stay.boxes (λ e. omega (arith, e))) means.boxes;
          receipts = rw (stay.receipts (λ e. omega (arith, e))) means.receipts;
          files = rw (stay.files (λ e. omega (arith, e))) means.files;
          pieces = rw (stay.pieces (λ e. omega (arith, e))) means.pieces;
          unlimited = λ one. absurd (versions_differ (sym one));
          rules = λ two. rw (stay.rules refl (λ e. omega (arith, e))) has.rules;
          limits = λ two. none_of tables.limit (new.now.trees 12) has.unlimited.1 (stay.limits refl (λ e. omega (arith, e)) ∙ has.none);
        };
      }

  -- if nothing was staged before, nothing is staged now
  pub still_unstaged : NoneStaged new.now.trees
  still_unstaged = versioned.0.stay.staged refl (λ e. omega (arith, e)) ∙ has.unstaged
