-- The INSERT of a box that a key is limited to, and the UPDATE of the allowance.
use Rattle.std.proofs.Common.{◌≡◌, inl, ℕ, ℤ, pos, List, [], ◌∷◌, map, drop, true, false, None, Some, Ok, arith, refl, sym, ap, ◌∙◌}
use Rattle.std.specs.List.{list_all}
use Rattle.sqlite_value.specs.declared.value.Value.TheVariants.{Null, Int, Text}
use Rattle.sqlite_value.specs.Order.{Row}
use Rattle.sqlite_sql.specs.Term.{holds, eval_all}
use Rattle.sqlite_schema.specs.declared.schema.Kind.TheVariants.{Integer}
use Rattle.sqlite_rules.specs.Edit.{numbered, next_rowid}
use Rattle.sqlite_rules.specs.Cast.{cast_row, cast}
use Rattle.sqlite_rules.specs.declared.error.Rowids.TheVariants.{Chosen}
use Rattle.sqlite.specs.State.{State, Executes}
use Rattle.sqlite.specs.Term.{Term, lit, col}
use Rattle.boxes.specs.State.{Limit}
use Rattle.sqltables.specs.Schema.{v2, s9}
use Rattle.sqltables.specs.Tables.{Tables, TablesMean, RowsMean, IsLimitRow, IsRulesRow, put, same_limit}
use Rattle.sqltables.specs.Changes.{with_limit, with_allowance}
use Rattle.sqltables.specs.Means.{Holds}
use Rattle.sqltables.proofs.AddedTexts.{insert_limit, insert_limit_is, update_allowance, update_allowance_is}
use Rattle.sqltables.proofs.Ours.{ours_2, limits_at, rules_at, versions_differ}
use Rattle.sqltables.proofs.Rows.{cast_null, cast_int}
use Rattle.sqltables.proofs.Updates.{HaveRowids}
use Rattle.sqltables.proofs.Maps.{means_put, means_update, Hits, Sets}
use Rattle.sqltables.proofs.Keys.{adds_put, tells_limits}
use Rattle.sqlchanges.proofs.Steps.{inserts_row, updates_rows}

-- ---- INSERT

abbrev pub given_limit : Limit → Row
given_limit limit = Text limit.key ∷ Text limit.box ∷ []

abbrev limit_row : ℤ → Limit → Row
limit_row n limit = Int n ∷ Text limit.key ∷ Text limit.box ∷ []

abbrev terms : List Term
terms = lit Null ∷ col 0 0 ∷ col 0 1 ∷ []

news_are : (rows : List Row) (limit : Limit) → numbered Chosen rows (map (λ s. cast_row limits_at (drop 0 s)) ((Null ∷ given_limit limit) ∷ [])) ≡ limit_row (next_rowid rows) limit ∷ []
news_are rows limit = rw cast_null

pub puts_limit : (old new : State) (count : ℕ) (tables : Tables) (limit : Limit) → old.now.schema ≡ s9 → TablesMean v2 old.now.trees tables → tables.limit limit ≡ None
    → Executes insert_limit (given_limit limit) old new (Ok count) → Holds v2 new.now (with_limit tables limit)
puts_limit old new count tables limit has means free ran =
    let rows = old.now.trees 12 in
    let row = limit_row (next_rowid rows) limit in
    let done = inserts_row s9 ours_2 limits_at 7 refl insert_limit (given_limit limit) old new count (λ db. refl) has ran terms 3 insert_limit_is row (news_are rows limit) in
    let limits : RowsMean IsLimitRow (put same_limit tables.limit limit tt) (new.now.trees 12) = rw done.1.is
    (means_put (put same_limit tables.limit limit tt) rows row limit tt (next_rowid rows) (means.limits refl)
    (record { key_is = refl; box_is = refl }) refl (adds_put tells_limits tables.limit limit tt free) done.1.fresh) in
    let stay = done.0.stay in
    record {
      schema = done.0.same_schema;
      sound = done.0.sound;
      means = record {
        office = rw (stay.office (λ e. omega (arith, e))) means.office;
        keys = rw (stay.keys (λ e. omega (arith, e))) means.keys;
        boxes = rw (stay.boxes (λ e. omega (arith, e))) means.boxes;
        receipts = rw (stay.receipts (λ e. omega (arith, e))) means.receipts;
        files = rw (stay.files (λ e. omega (arith, e))) means.files;
        pieces = rw (stay.pieces (λ e. omega (arith, e))) means.pieces;
        unlimited = λ one. absurd (versions_differ (sym one));
        rules = λ two. rw (stay.rules refl (λ e. omega (arith, e))) (means.rules refl);
        limits = λ two. limits;
      };
    }

-- ---- UPDATE

abbrev set_terms : List Term
set_terms = col 1 0 ∷ lit Null ∷ col 0 0 ∷ []

abbrev given_seconds : ℕ → Row
given_seconds seconds = Int (pos seconds) ∷ []

abbrev kept : Row → ℕ → Row
kept r seconds = cast_row rules_at (eval_all set_terms (given_seconds seconds ∷ r ∷ []))

number : {n : ℤ} {v : _} → v ≡ Int n → cast Integer v ≡ Int n
number {n} e = ap (cast Integer) e ∙ cast_int n

hits_rules : (seconds : ℕ) → Hits IsRulesRow (λ r. list_all (holds (given_seconds seconds ∷ r ∷ [])) []) (λ r. kept r seconds) tt (λ was. seconds)
hits_rules seconds = record {
  hit = λ r q v is passes. refl;
  miss = λ r q v is fails same. let e : ◌≡◌ true false = fails in cc;
  moved = λ r v is. record { id_is = number is.id_is; allowance_is = cast_int (pos seconds) };
  keeps = λ r n is. number is;
}

sets_seconds : (was seconds : ℕ) → Sets {K = Unit {0}} (λ one. Some was) (λ one. Some seconds) tt (λ x. seconds)
sets_seconds was seconds = record {
  here = λ v some. refl;
  back = λ w some. (was, refl, let same : seconds ≡ w = cc in sym same);
  other = λ q apart. absurd (apart refl);
  decide = λ q. inl refl;
}

pub sets_allowance : (old new : State) (count : ℕ) (tables : Tables) (seconds : ℕ) → old.now.schema ≡ s9 → TablesMean v2 old.now.trees tables
    → Executes update_allowance (given_seconds seconds) old new (Ok count) → Holds v2 new.now (with_allowance tables seconds)
sets_allowance old new count tables seconds has means ran =
    let rows = old.now.trees 11 in
    let was = means.rules refl in
    let apart : HaveRowids rows = record { keyed = was.keyed; apart = was.apart } in
    let done = updates_rows s9 ours_2 rules_at 6 refl update_allowance (given_seconds seconds) old new count (λ db. refl) has ran [] set_terms update_allowance_is apart in
    let rules : RowsMean IsRulesRow (λ one. Some seconds) (new.now.trees 11) = means_update (λ one. Some seconds) rows (new.now.trees 11) (λ r. list_all (holds (given_seconds seconds ∷ r ∷ [])) []) (λ r. kept r seconds)
    tt (λ x. seconds) was done.1 (hits_rules seconds) (sets_seconds tables.allowance seconds) in
    let stay = done.0.stay in
    record {
      schema = done.0.same_schema;
      sound = done.0.sound;
      means = record {
        office = rw (stay.office (λ e. omega (arith, e))) means.office;
        keys = rw (stay.keys (λ e. omega (arith, e))) means.keys;
        boxes = rw (stay.boxes (λ e. omega (arith, e))) means.boxes;
        receipts = rw (stay.receipts (λ e. omega (arith, e))) means.receipts;
        files = rw (stay.files (λ e. omega (arith, e))) means.files;
        pieces = rw (stay.pieces (λ e. omega (arith, e))) means.pieces;
        unlimited = λ one. absurd (versions_differ (sym one));
        rules = λ two. rules;
        limits = λ two. rw (stay.limits refl (λ e. omega (arith, e))) (means.limits refl);
      };
    }
