-- An argument with a default has a value if the words have no fault.
use Rattle.std.proofs.Common.{◌≡◌, ◌∙◌, ◌&&◌, ◌||◌, Bool, cond, true, false, not, refl, sym, ap, List, [], ◌∷◌, ◌++◌, Option, Some, None, is_some}
use Rattle.std.specs.List.{find, fold, list_all, list_any}
use Rattle.std.specs.Str.{bytes_eq}
use Rattle.std.specs.Prelude.{option_and_then, option_map, slice_get}
use Rattle.std.proofs.lemmas.Slice.Eq.{bytes_eq-Decides}
use Rattle.clap.specs.Faults.{level_fault}
use Rattle.clap.specs.Simple.{Shape}
use Rattle.clap.specs.Walk.{Row, Rule, Text, all_of, at_row, default_rows, first_of, has_row, is_empty, more_values, nothing_held, reading_by, rows_after, with_default}
use Rattle.clap.specs.declared.parser.matches.ValueSource.{ValueSource}
use Rattle.clap.specs.declared.parser.matches.ValueSource.TheVariants.{DefaultValue}
use Rattle.tasks.proofs.FullRows.{Full, fills, free_steps, full_level}
use Rattle.tasks.proofs.FaultFree.{first_some}

or_right : (a b : Bool) → b ≡ true → (a || b) ≡ true
or_right true b e = refl
or_right false b e = e

or_more : (a b c : Bool) → (a || b) ≡ true → (b ≡ true → c ≡ true) → (a || c) ≡ true
or_more true b c e more = refl
or_more false b c e more = more e

-- ---- a row stays, and one is added

kept_at : (id at : Text) (s : ValueSource) (values : List Text) (missing rows : List Row) → has_row id rows ≡ true → has_row id (at_row at (more_values s values) missing rows) ≡ true
kept_at id at s values missing [] has = let bad : ⊥ = cc in absurd bad
kept_at id at s values missing (r ∷ rs) has = go (bytes_eq r.id at) (kept_at id at s values missing rs)
  where
    go : (b : Bool) → (has_row id rs ≡ true → has_row id (at_row at (more_values s values) missing rs) ≡ true)
        → has_row id (cond b (more_values s values r ++ rs) (r ∷ at_row at (more_values s values) missing rs)) ≡ true
    go true rest = has
    go false rest = or_more (bytes_eq r.id id) _ _ has rest

made_at : (id : Text) (s : ValueSource) (values : List Text) (new : Row) (rows : List Row) → new.id ≡ id → has_row id (at_row id (more_values s values) (new ∷ []) rows) ≡ true
made_at id s values new [] same = rw ((bytes_eq-Decides new.id id).1 same) refl
made_at id s values new (r ∷ rs) same = go (bytes_eq r.id id) refl (made_at id s values new rs same)
  where
    go : (b : Bool) → bytes_eq r.id id ≡ b → has_row id (at_row id (more_values s values) (new ∷ []) rs) ≡ true
        → has_row id (cond b (more_values s values r ++ rs) (r ∷ at_row id (more_values s values) (new ∷ []) rs)) ≡ true
    go true here rest = rw here refl
    go false here rest = or_right (bytes_eq r.id id) _ rest

kept_default : (id : Text) (rows : List Row) (a : Rule) → has_row id rows ≡ true → has_row id (with_default rows a) ≡ true
kept_default id rows a has = go (has_row a.id rows)
  where
    by : (values : List Text) → has_row id (default_rows a.id (reading_by a) values rows) ≡ true
    by [] = has
    by (v ∷ vs) = kept_at id a.id DefaultValue (v ∷ vs) _ rows has

    go : (b : Bool) → has_row id (cond b rows (default_rows a.id (reading_by a) a.defaults rows)) ≡ true
    go true = has
    go false = by a.defaults

made_default : (rows : List Row) (a : Rule) → not (is_empty a.defaults) ≡ true → has_row a.id (with_default rows a) ≡ true
made_default rows a some = go (has_row a.id rows) refl
  where
    by : (values : List Text) → not (is_empty values) ≡ true → has_row a.id (default_rows a.id (reading_by a) values rows) ≡ true
    by [] none = let bad : ⊥ = cc in absurd bad
    by (v ∷ vs) none = made_at a.id DefaultValue (v ∷ vs) _ rows refl

    go : (b : Bool) → has_row a.id rows ≡ b → has_row a.id (cond b rows (default_rows a.id (reading_by a) a.defaults rows)) ≡ true
    go true has = has
    go false has = by a.defaults some

all_kept : (id : Text) (rules : List Rule) (rows : List Row) → has_row id rows ≡ true → has_row id (fold with_default rows rules) ≡ true
all_kept id [] rows has = has
all_kept id (a ∷ rest) rows has = all_kept id rest (with_default rows a) (kept_default id rows a has)

-- an argument with this id has a default
abbrev pub has_default : Text → List Rule → Bool
has_default id rules = list_any (λ a. not (is_empty a.defaults) && bytes_eq a.id id) rules

defaulted : (id : Text) (rules : List Rule) (rows : List Row) → has_default id rules ≡ true → has_row id (fold with_default rows rules) ≡ true
defaulted id [] rows some = let bad : ⊥ = cc in absurd bad
defaulted id (a ∷ rest) rows some = go (not (is_empty a.defaults)) (bytes_eq a.id id) refl (bytes_eq-Decides a.id id).0 some (defaulted id rest (with_default rows a))
  where
    go : (d b : Bool) → not (is_empty a.defaults) ≡ d → (b ≡ true → a.id ≡ id) → ((d && b) || has_default id rest) ≡ true
        → (has_default id rest ≡ true → has_row id (fold with_default (with_default rows a) rest) ≡ true) → has_row id (fold with_default (with_default rows a) rest) ≡ true
    go true true own same e below = all_kept id rest (with_default rows a) (ap (λ x. has_row x (with_default rows a)) (sym (same refl)) ∙ made_default rows a own)
    go true false own same e below = below e
    go false b own same e below = below e

-- ---- its value

row_value : (id : Text) (rows : List Row) → Full rows → has_row id rows ≡ true → is_some (first_of id rows) ≡ true
row_value id [] f has = let bad : ⊥ = cc in absurd bad
row_value id (r ∷ rs) f has = go (bytes_eq r.id id) has (row_value id rs f.1)
  where
    go : (b : Bool) → (b || has_row id rs) ≡ true → (has_row id rs ≡ true → is_some (first_of id rs) ≡ true)
        → is_some (option_and_then (λ (x : Row). slice_get x.values 0) (cond b (Some r) (find (λ x. bytes_eq x.id id) rs))) ≡ true
    go true e rest = first_some r.values f.0
    go false e rest = rest e

-- words without a fault give a value to each argument that has a default
pub default_value : (s : Shape) (words : List Text) → list_all fills s.rules ≡ true → level_fault s [] nothing_held words false [] ≡ []
    → (id : Text) → has_default id s.rules ≡ true → is_some (first_of id (rows_after s.rules [] words)) ≡ true
default_value s words fill e id some = row_value id (rows_after s.rules [] words) (full_level s [] fill words false [] (free_steps s [] words false [] e)) (defaulted id s.rules _ some)

-- an argument with a first value has values
pub all_given : (id : Text) (rows : List Row) → is_some (first_of id rows) ≡ true → is_some (all_of id rows) ≡ true
all_given id rows some = go (find (λ r. bytes_eq r.id id) rows) some
  where
    go : (o : Option Row) → is_some (option_and_then (λ (r : Row). slice_get r.values 0) o) ≡ true → is_some (option_map (λ (r : Row). r.values) o) ≡ true
    go None e = let bad : ⊥ = cc in absurd bad
    go (Some r) e = refl
