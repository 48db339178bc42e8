-- Each row of the pieces has a row of the files.
use Rattle.std.proofs.Common.{◌≡◌, ◌&&◌, ◌||◌, inl, inr, ℕ, List, [], ◌∷◌, Bool, true, false, refl, sym, subst, ◌∙◌}
use Rattle.std.specs.List.{list_any}
use Rattle.std.proofs.lemmas.Bool.{and_parts}
use Rattle.sqlite_value.specs.declared.value.Value.TheVariants.{Text}
use Rattle.sqlite_value.specs.declared.keys.Collation.TheVariants.{Binary}
use Rattle.sqlite_value.specs.Order.{Row, column}
use Rattle.sqlite_value.specs.Keys.{first_key, joined}
use Rattle.sqlite_schema.specs.Names.{same_name}
use Rattle.sqlite_trees.specs.Tree.{Trees}
use Rattle.sqlite_schema.specs.declared.schema.Constraint.TheVariants.{ForeignKey}
use Rattle.sqlite_schema.specs.Rules.{passes, Keeps, equal, has_null}
use Rattle.sqlite_rules.specs.Lists.{Has}
use Rattle.sqlite_rules.proofs.ListLemmas.{all_has, some_has}
use Rattle.sqlite.specs.Effect.{Database}
use Rattle.sqltables.specs.Schema.{Version, IsVersion, s6, s9}
use Rattle.sqltables.specs.Means.{IsWhole}
use Rattle.sqltables.proofs.Keys.{tells_bytes, by_order}
use Rattle.sqltables.proofs.Ours.{pieces_at}
use Rattle.sqltables.proofs.Rows.{equal_texts}

-- the rows have the same box and name
abbrev same : Row → Row → Bool
same row file = equal Binary (column file 1) (column row 1) && (equal Binary (column file 2) (column row 2) && true)

abbrev places : List ℕ
places = 1 ∷ 2 ∷ []

-- what the reference in the table of pieces requires of a row
abbrev Refers : Trees → Row → Type 0
Refers trees row = (has_null places row || list_any (same row) (trees 6)) && true ≡ true

refers_first : (trees : Trees) (row : Row) → passes ForeignKey s6 trees pieces_at row ≡ true → Refers trees row
unfolding first_key joined same_name
refers_first trees row h = h

refers_second : (trees : Trees) (row : Row) → passes ForeignKey s9 trees pieces_at row ≡ true → Refers trees row
unfolding first_key joined same_name
refers_second trees row h = h

abbrev Referring : Version → Trees → Type 0
Referring v trees = Keeps ForeignKey v.schema trees → (row : Row) → Has (trees 9) row → Refers trees row

referring : (v : Version) → IsVersion v → (trees : Trees) → Referring v trees
unfolding IsVersion
referring v (inl is) trees =
    subst (λ (w : Version). Referring w trees) (sym is) (λ keeps row there. refers_first trees row (all_has (λ r. passes ForeignKey s6 trees pieces_at r ≡ true) (trees 9) row keeps.1.1.1.1.1.0 there))
referring v (inr is) trees =
    subst (λ (w : Version). Referring w trees) (sym is) (λ keeps row there. refers_second trees row (all_has (λ r. passes ForeignKey s9 trees pieces_at r ≡ true) (trees 9) row keeps.1.1.1.1.1.0 there))

-- the file of a row of the pieces
pub file_row : (v : Version) → IsVersion v → (db : Database) → db.schema ≡ v.schema → IsWhole db → (row : Row) → Has (db.trees 9) row → (box name : List ℕ) → column row 1 ≡ Text box → column row 2 ≡ Text name
    → (file : Row) × Has (db.trees 6) file × ((in_box called : List ℕ) → column file 1 ≡ Text in_box → column file 2 ≡ Text called → (in_box ≡ box) × (called ≡ name))
unfolding IsWhole
file_row v ours db has whole row there box name box_is name_is =
    let keeps = subst (λ s. Keeps ForeignKey s db.trees) has (whole.obeys.rules ForeignKey) in
    let all = referring v ours db.trees keeps row there in
    let none : has_null places row ≡ false = rw (box_is, name_is) refl in
    let either = (and_parts (has_null places row || list_any (same row) (db.trees 6)) true all).0 in
    let some : list_any (same row) (db.trees 6) ≡ true = rw none at either in
    let found = some_has (same row) (db.trees 6) some in (
      found.0,
      found.1,
      λ in_box called first second.
          let both : equal Binary (Text in_box) (Text box) && (equal Binary (Text called) (Text name) && true) ≡ true = rw (first, second, box_is, name_is) at found.2 in
          let a = and_parts (equal Binary (Text in_box) (Text box)) (equal Binary (Text called) (Text name) && true) both in
          let b = and_parts (equal Binary (Text called) (Text name)) true a.1 in (
            tells_bytes.only in_box box (by_order in_box box ∙ sym (equal_texts in_box box) ∙ a.0),
            tells_bytes.only called name (by_order called name ∙ sym (equal_texts called name) ∙ b.0),
          ),
    )
