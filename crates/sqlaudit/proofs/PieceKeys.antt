-- No two rows of the pieces have the same box, name and part.
use Rattle.std.proofs.Common.{◌≡◌, ◌&&◌, inl, inr, ℕ, ℤ, List, [], ◌∷◌, Bool, true, false, not, Some, Ordering, Less, Equal, Greater, refl, sym, ap, ap₂, subst, ◌∙◌}
use Rattle.std.specs.List.{list_any}
use Rattle.std.specs.Ordering.{int_cmp, is_eq, is_ne}
use Rattle.std.specs.FinMap.{int_cmp-IsAntisymmetric}
use Rattle.std.proofs.lemmas.Cmp.{int_cmp_total, tied_itself}
use Rattle.std.proofs.lemmas.Bool.{and_parts, and_from}
use Rattle.sqlite_value.specs.declared.value.Value.{Value}
use Rattle.sqlite_value.specs.declared.value.Value.TheVariants.{Int, Text}
use Rattle.sqlite_value.specs.declared.keys.Collation.TheVariants.{Binary}
use Rattle.sqlite_value.specs.Order.{Row, column, value_cmp}
use Rattle.sqlite_value.specs.Keys.{plain, first_key}
use Rattle.sqlite_value.proofs.OrderLemmas.{value_cmp-Int}
use Rattle.sqlite_trees.specs.Tree.{Trees, rowid}
use Rattle.sqlite_sql.specs.Ops.{binary, is_true, from_truth}
use Rattle.sqlite_schema.specs.declared.schema.Constraint.TheVariants.{Unique}
use Rattle.sqlite_schema.specs.Rules.{passes, Keeps, agree, equal, differ}
use Rattle.sqlite_rules.specs.Lists.{Has}
use Rattle.sqlite_rules.proofs.ListLemmas.{all_has, some_from}
use Rattle.sqlite.specs.Effect.{Database}
use Rattle.sqltables.specs.Schema.{Version, IsVersion, s6, s9}
use Rattle.sqltables.specs.Means.{IsWhole}
use Rattle.sqlaudit.specs.Lines.{HaveRowids}
use Rattle.sqltables.proofs.Ours.{pieces_at}
use Rattle.sqltables.proofs.Rows.{equal_texts, equal_integers}
use Rattle.sqltables.proofs.Keys.{tells_bytes, by_order}

-- ---- values that SQL's = and <> distinguish

texts_agree : (a b : Value) (t : List ℕ) → a ≡ Text t → b ≡ Text t → equal Binary a b ≡ true
texts_agree a b t first second = ap₂ (equal Binary) first second ∙ equal_texts t t ∙ sym (by_order t t) ∙ tells_bytes.itself t

integers_agree : (a b : Value) (n : ℤ) → a ≡ Int n → b ≡ Int n → equal Binary a b ≡ true
integers_agree a b n first second = ap₂ (equal Binary) first second ∙ equal_integers n n ∙ ap is_eq (tied_itself int_cmp_total n)

untrue : (b : Bool) → is_true (from_truth (Some b)) ≡ false → b ≡ false
untrue true h = h
untrue false h = refl

tied : (o : Ordering) → is_ne o ≡ false → o ≡ Equal
tied Less h = cc
tied Equal h = refl
tied Greater h = cc

same_integers : (m n : ℤ) → differ (Int m) (Int n) ≡ false → m ≡ n
unfolding binary
same_integers m n h = int_cmp-IsAntisymmetric m n (tied (int_cmp m n) (sym (ap is_ne (value_cmp-Int m n)) ∙ untrue (is_ne (value_cmp (Int m) (Int n))) h))

-- ---- the key of the pieces

-- the key columns of the row
pub record IsAt (row : Row) (box name : List ℕ) (part : ℤ) : Type 0 where
  pub box_is : column row 1 ≡ Text box
  pub name_is : column row 2 ≡ Text name
  pub part_is : column row 3 ≡ Int part

abbrev key : List ℕ
key = 1 ∷ 2 ∷ 3 ∷ []

agrees : (a b : Row) (box name : List ℕ) (part : ℤ) → IsAt a box name part → IsAt b box name part → agree plain key a key b ≡ true
unfolding first_key
agrees a b box name part x y =
    and_from _ _ (texts_agree (column a 1) (column b 1) box x.box_is y.box_is)
    (and_from _ _ (texts_agree (column a 2) (column b 2) name x.name_is y.name_is)
    (and_from _ _ (integers_agree (column a 3) (column b 3) part x.part_is y.part_is) refl))

abbrev clash : Row → Row → Bool
clash b a = agree plain key a key b && differ (rowid a) (rowid b)

-- a row of the pieces that obeys the rule of their key
abbrev Passes : Trees → Row → Type 0
Passes trees b = not (list_any (clash b) (trees 9)) && true ≡ true

abbrev Passing : Version → Trees → Type 0
Passing v trees = Keeps Unique v.schema trees → (b : Row) → Has (trees 9) b → Passes trees b

passing_of : (v : Version) → IsVersion v → (trees : Trees) → Passing v trees
unfolding IsVersion
passing_of v (inl is) trees =
    subst (λ (w : Version). Passing w trees) (sym is) (λ unique b there. all_has (λ r. passes Unique s6 trees pieces_at r ≡ true) (trees 9) b unique.1.1.1.1.1.0 there)
passing_of v (inr is) trees =
    subst (λ (w : Version). Passing w trees) (sym is) (λ unique b there. all_has (λ r. passes Unique s9 trees pieces_at r ≡ true) (trees 9) b unique.1.1.1.1.1.0 there)

pub one_piece_row : (v : Version) → IsVersion v → (db : Database) → db.schema ≡ v.schema → IsWhole db → HaveRowids (db.trees 9) → (a b : Row) (box name : List ℕ) (part : ℤ) → Has (db.trees 9) a → Has (db.trees 9) b
    → IsAt a box name part → IsAt b box name part → a ≡ b
unfolding IsWhole
one_piece_row v ours db has whole ids a b box name part a_in b_in at_a at_b = go (differ (rowid a) (rowid b)) refl
  where
    unique : Keeps Unique v.schema db.trees
    unique = subst (λ s. Keeps Unique s db.trees) has (whole.obeys.rules Unique)

    passing : Passes db.trees b
    passing = passing_of v ours db.trees unique b b_in

    alone : list_any (clash b) (db.trees 9) ≡ true → ⊥
    alone hit = let none = (and_parts (not (list_any (clash b) (db.trees 9))) true passing).0 in let e = rw hit at none in cc

    go : (d : Bool) → differ (rowid a) (rowid b) ≡ d → a ≡ b
    go true apart = absurd (alone (some_from (clash b) (db.trees 9) a a_in (and_from _ _ (agrees a b box name part at_a at_b) apart)))
    go false tied =
        let m = ids.keyed a a_in in
        let n = ids.keyed b b_in in
        let same : m.0 ≡ n.0 = same_integers m.0 n.0 (sym (ap₂ differ m.1 n.1) ∙ tied) in
        ids.apart a b a_in b_in (m.1 ∙ ap Int same ∙ sym n.1)
