-- The columns of the table of pieces, in a database of the schema.
use Rattle.std.proofs.Common.{◌≡◌, ◌≢◌, ◌&&◌, inl, inr, Bool, None, ℕ, ℤ, not, List, [], ◌∷◌, true, refl, ap, subst, ◌∙◌}
use Rattle.std.specs.List.{AllByRecursion}
use Rattle.std.proofs.lemmas.Bool.{and_parts}
use Rattle.sqlite_value.specs.declared.value.Value.{Value}
use Rattle.sqlite_value.specs.declared.value.Value.TheVariants.{Null, Int, Real, Text, Blob}
use Rattle.sqlite_value.specs.Order.{Row, column}
use Rattle.sqlite_trees.specs.Tree.{Trees}
use Rattle.sqlite_sql.specs.Ops.{is_null}
use Rattle.sqlite_schema.specs.declared.schema.Constraint.TheVariants.{Datatype, NotNull}
use Rattle.sqlite_schema.specs.Rules.{passes, Keeps, is_of, are_typed}
use Rattle.sqlite_schema.specs.declared.schema.Kind.TheVariants as kind
use Rattle.sqlite_schema.specs.declared.schema.Schema.{Schema}
use Rattle.sqlite_rules.specs.Lists.{Has}
use Rattle.sqlite_rules.proofs.ListLemmas.{all_has}
use Rattle.sqlite.specs.Effect.{Database}
use Rattle.sqltables.specs.Schema.{Version, IsVersion, s6, s9}
use Rattle.sqltables.specs.Means.{IsWhole}
use Rattle.sqltables.proofs.Ours.{pieces_at}

is_text : (v : Value) → is_of kind.Text v ≡ true → v ≢ Null → (text : List ℕ) × (v ≡ Text text)
is_text Null typed there = absurd (there refl)
is_text (Int n) typed there = absurd cc
is_text (Real x) typed there = absurd cc
is_text (Text t) typed there = (t, refl)
is_text (Blob b) typed there = absurd cc

is_integer : (v : Value) → is_of kind.Integer v ≡ true → v ≢ Null → (n : ℤ) × (v ≡ Int n)
is_integer Null typed there = absurd (there refl)
is_integer (Int n) typed there = (n, refl)
is_integer (Real x) typed there = absurd cc
is_integer (Text t) typed there = absurd cc
is_integer (Blob b) typed there = absurd cc

is_blob : (v : Value) → is_of kind.Blob v ≡ true → v ≢ Null → (bytes : List ℕ) × (v ≡ Blob bytes)
is_blob Null typed there = absurd (there refl)
is_blob (Int n) typed there = absurd cc
is_blob (Real x) typed there = absurd cc
is_blob (Text t) typed there = absurd cc
is_blob (Blob b) typed there = (b, refl)

not_null : (v : Value) → not (is_null v) ≡ true → v ≢ Null
not_null v h none = let e = rw none at h in cc

four : (p q r s t : Bool) → p && (q && (r && (s && t))) ≡ true → (p ≡ true) × ((q ≡ true) × ((r ≡ true) × (s ≡ true)))
four p q r s t h =
    let a = and_parts p (q && (r && (s && t))) h in
    let b = and_parts q (r && (s && t)) a.1 in
    let c = and_parts r (s && t) b.1 in
    (a.0, (b.0, (c.0, (and_parts s t c.1).0)))

-- the columns of a row of the pieces
pub record PieceColumns (row : Row) : Type 0 where
  pub box : (text : List ℕ) × (column row 1 ≡ Text text)
  pub name : (text : List ℕ) × (column row 2 ≡ Text text)
  pub part : (n : ℤ) × (column row 3 ≡ Int n)
  pub bytes : (bytes : List ℕ) × (column row 4 ≡ Blob bytes)

abbrev AllThere : Row → Type 0
AllThere row = (column row 1 ≢ Null) × ((column row 2 ≢ Null) × ((column row 3 ≢ Null) × (column row 4 ≢ Null)))

all_there : (s : Schema) (db : Trees) (row : Row) → passes NotNull s db pieces_at row ≡ true → AllThere row
all_there s db row h =
    let parts = four (not (is_null (column row 1))) (not (is_null (column row 2))) (not (is_null (column row 3))) (not (is_null (column row 4))) true h in
    (not_null (column row 1) parts.0, (not_null (column row 2) parts.1.0, (not_null (column row 3) parts.1.1.0, not_null (column row 4) parts.1.1.1)))

columns : (s : Schema) (db : Trees) (row : Row) → passes Datatype s db pieces_at row ≡ true → AllThere row → PieceColumns row
columns s db (a ∷ b ∷ c ∷ d ∷ e ∷ more) typed there =
    let kinds = and_parts (is_of kind.Text b && (is_of kind.Text c && (is_of kind.Integer d && (is_of kind.Blob e && are_typed None 4 [] more)))) true typed in
    let parts = four (is_of kind.Text b) (is_of kind.Text c) (is_of kind.Integer d) (is_of kind.Blob e) (are_typed None 4 [] more) kinds.0 in
    record {
      box = is_text b parts.0 there.0;
      name = is_text c parts.1.0 there.1.0;
      part = is_integer d parts.1.1.0 there.1.1.0;
      bytes = is_blob e parts.1.1.1 there.1.1.1;
    }
columns s db [] typed there = absurd (there.1.1.1 refl)
columns s db (a ∷ []) typed there = absurd (there.1.1.1 refl)
columns s db (a ∷ b ∷ []) typed there = absurd (there.1.1.1 refl)
columns s db (a ∷ b ∷ c ∷ []) typed there = absurd (there.1.1.1 refl)
columns s db (a ∷ b ∷ c ∷ d ∷ []) typed there = absurd (there.1.1.1 refl)

-- each row of the table of pieces obeys these two rules
row_columns : (s : Schema) (db : Trees) → AllByRecursion (λ r. passes Datatype s db pieces_at r ≡ true) (db 9) → AllByRecursion (λ r. passes NotNull s db pieces_at r ≡ true) (db 9)
    → (row : Row) → Has (db 9) row → PieceColumns row
row_columns s db typed present row there =
    columns s db row (all_has (λ r. passes Datatype s db pieces_at r ≡ true) (db 9) row typed there)
    (all_there s db row (all_has (λ r. passes NotNull s db pieces_at r ≡ true) (db 9) row present there))

pub piece_columns : (v : Version) → IsVersion v → (db : Database) → db.schema ≡ v.schema → IsWhole db → (row : Row) → Has (db.trees 9) row → PieceColumns row
unfolding IsWhole IsVersion
piece_columns v (inl is) db has whole =
    let same : db.schema ≡ s6 = has ∙ ap (λ (w : Version). w.schema) is in
    let typed : Keeps Datatype s6 db.trees = subst (λ s. Keeps Datatype s db.trees) same (whole.obeys.rules Datatype) in
    let present : Keeps NotNull s6 db.trees = subst (λ s. Keeps NotNull s db.trees) same (whole.obeys.rules NotNull) in
    row_columns s6 db.trees typed.1.1.1.1.1.0 present.1.1.1.1.1.0
piece_columns v (inr is) db has whole =
    let same : db.schema ≡ s9 = has ∙ ap (λ (w : Version). w.schema) is in
    let typed : Keeps Datatype s9 db.trees = subst (λ s. Keeps Datatype s db.trees) same (whole.obeys.rules Datatype) in
    let present : Keeps NotNull s9 db.trees = subst (λ s. Keeps NotNull s db.trees) same (whole.obeys.rules NotNull) in
    row_columns s9 db.trees typed.1.1.1.1.1.0 present.1.1.1.1.1.0
