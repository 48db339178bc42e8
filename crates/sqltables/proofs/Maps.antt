-- A finite map with one more entry, and the rows that mean it.
use Rattle.std.proofs.Common.{◌≡◌, ◌⊎◌, inl, inr, ℤ, List, [], ◌∷◌, Bool, true, false, Option, Some, refl, sym, ap, subst, ◌∙◌}
use Rattle.std.specs.Ordering.{is_eq}
use Rattle.std.proofs.lemmas.Cmp.{tied_itself}
use Rattle.std.proofs.lemmas.Bool.{cases_Bool, and_parts, not-true, false_from_ne_true, true_from_ne_false}
use Rattle.sqlite_value.specs.Order.{Row, value_cmp}
use Rattle.sqlite_rules.specs.Lists.{Has}
use Rattle.sqlite_rules.specs.Edit.{put_all, are_fresh, is_taken}
use Rattle.sqlite_rules.proofs.ListLemmas.{some_from}
use Rattle.sqlite_trees.specs.Tree.{rowid}
use Rattle.sqlite_value.specs.declared.value.Value.TheVariants.{Int}
use Rattle.sqlite_value.proofs.OrderLemmas.{value_cmp_total}
use Rattle.sqlite_rules.proofs.TableLemmas.{put_all_has, put_all_keeps, put_all_adds}
use Rattle.sqltables.specs.Tables.{RowsMean, without}
pub use Rattle.sqltables.specs.Changes.{Adds}
use Rattle.sqltables.proofs.Updates.{RowsChange, RowsGo}

other_rowid : (rows : List Row) (a new : Row) → Has rows a → is_taken rows new ≡ false → rowid a ≡ rowid new → ⊥
other_rowid rows a new has free same = let taken = some_from (λ r. is_eq (value_cmp (rowid r) (rowid new))) rows a has (rw same (ap is_eq (tied_itself value_cmp_total (rowid new)))) in cc

-- a row that was inserted with an unused rowid adds its entry
pub means_put : {K V : Type 0} {IsRow : Row → K → V → Type 0} {f : K → Option V} (g : K → Option V) (rows : List Row) (new : Row) (k : K) (v : V) (n : ℤ)
    → RowsMean IsRow f rows → IsRow new k v → rowid new ≡ Int n → Adds f g k v → are_fresh rows (new ∷ []) ≡ true → RowsMean IsRow g (put_all rows (new ∷ []))
means_put {IsRow = IsRow} g rows new k v n means is key_is adds fresh =
    let news = new ∷ [] in
    let free : is_taken rows new ≡ false = not-true (is_taken rows new) (and_parts _ _ fresh).0 in
    let cases = λ (row : Row) (has : Has (put_all rows news) row). put_all_has news rows row has in
    record {
      each = λ row has. elim (cases row has) [
        | inl (inl same) ↦ (k, v, subst (λ r. IsRow r k v) (sym same) is, adds.here)
        | inl (inr none) ↦ absurd none
        | inr was ↦ let e = means.each row was in (e.0, e.1, e.2, adds.still e.0 e.1 e.3)
      ];
      all = λ q w some. elim (adds.either q w some) [
        | inl same ↦ (new, put_all_adds news rows new fresh (inl refl), rw (same.0, same.1) is)
        | inr was ↦ let there = means.all q w was in (there.0, put_all_keeps news rows there.0 fresh there.1, there.2)
      ];
      keyed = λ row has. elim (cases row has) [
        | inl (inl same) ↦ (n, ap rowid same ∙ key_is)
        | inl (inr none) ↦ absurd none
        | inr was ↦ means.keyed row was
      ];
      apart = λ a b has_a has_b same. elim (cases a has_a) [
        | inl (inl a_is) ↦ elim (cases b has_b) [
          | inl (inl b_is) ↦ a_is ∙ sym b_is
          | inl (inr none) ↦ absurd none
          | inr b_was ↦ absurd (other_rowid rows b new b_was free (sym same ∙ ap rowid a_is))
        ]
        | inl (inr none) ↦ absurd none
        | inr a_was ↦ elim (cases b has_b) [
          | inl (inl b_is) ↦ absurd (other_rowid rows a new a_was free (same ∙ ap rowid b_is))
          | inl (inr none) ↦ absurd none
          | inr b_was ↦ means.apart a b a_was b_was same
        ]
      ];
    }

-- g is f with one entry changed
pub record Sets {K V : Type 0} (f g : K → Option V) (k : K) (change : V → V) : Type 0 where
  pub here : (v : V) → f k ≡ Some v → g k ≡ Some (change v)
  pub back : (w : V) → g k ≡ Some w → (v : V) × (f k ≡ Some v) × (w ≡ change v)
  pub other : (q : K) → (q ≡ k → ⊥) → g q ≡ f q
  pub decide : (q : K) → (q ≡ k) ⊎ (q ≡ k → ⊥)

-- the test passes the rows of one key, and the change is made in the row
pub record Hits {K V : Type 0} (IsRow : Row → K → V → Type 0) (p : Row → Bool) (upd : Row → Row) (k : K) (change : V → V) : Type 0 where
  pub hit : (r : Row) (q : K) (v : V) → IsRow r q v → p r ≡ true → q ≡ k
  pub miss : (r : Row) (q : K) (v : V) → IsRow r q v → p r ≡ false → q ≡ k → ⊥
  pub moved : (r : Row) (v : V) → IsRow r k v → IsRow (upd r) k (change v)
  pub keeps : (r : Row) (n : ℤ) → rowid r ≡ Int n → rowid (upd r) ≡ Int n

module _ {K V : Type 0} {IsRow : Row → K → V → Type 0} {f : K → Option V} (g : K → Option V) (rows after : List Row) (p : Row → Bool) (upd : Row → Row) (k : K) (change : V → V)
    (means : RowsMean IsRow f rows) (moves : RowsChange rows after p upd) (hits : Hits IsRow p upd k change) (sets : Sets f g k change) where
  keeps_rowid : (r : Row) → Has rows r → rowid (upd r) ≡ rowid r
  keeps_rowid r has = let n = means.keyed r has in hits.keeps r n.0 n.1 ∙ sym n.1

  never : (a r : Row) → p a ≡ false → p r ≡ true → a ≡ r → ⊥
  never a r fails passes same = let e = sym fails ∙ ap p same ∙ passes in cc

  pub means_update : RowsMean IsRow g after
  means_update = record {
    each = λ x has. elim (moves.each x has) [
      | inl was ↦ let e = means.each x was.0 in (e.0, e.1, e.2, sets.other e.0 (hits.miss x e.0 e.1 e.2 was.1) ∙ e.3)
      | inr new ↦
          let e = means.each new.0 new.1 in
          let here : e.0 ≡ k = hits.hit new.0 e.0 e.1 e.2 new.2 in
          let is : IsRow new.0 k e.1 = subst (λ q. IsRow new.0 q e.1) here e.2 in
          (k, change e.1, subst (λ r. IsRow r k (change e.1)) (sym new.3) (hits.moved new.0 e.1 is), sets.here e.1 (ap f (sym here) ∙ e.3))
    ];
    all = λ q w some. elim (sets.decide q) [
      | inl here ↦
          let was = sets.back w (ap g (sym here) ∙ some) in
          let r = means.all k was.0 was.1 in
          let passes : p r.0 ≡ true = true_from_ne_false (p r.0) (λ fails. hits.miss r.0 k was.0 r.2 fails refl) in
          (upd r.0, moves.changed r.0 r.1 passes, subst (λ q. IsRow (upd r.0) q w) (sym here) (subst (λ x. IsRow (upd r.0) k x) (sym was.2) (hits.moved r.0 was.0 r.2)))
      | inr other ↦
          let r = means.all q w (sym (sets.other q other) ∙ some) in
          let fails : p r.0 ≡ false = false_from_ne_true (p r.0) (λ passes. other (hits.hit r.0 q w r.2 passes)) in
          (r.0, moves.stays r.0 r.1 fails, r.2)
    ];
    keyed = λ x has. elim (moves.each x has) [
      | inl was ↦ means.keyed x was.0
      | inr new ↦ let n = means.keyed new.0 new.1 in (n.0, ap rowid new.3 ∙ hits.keeps new.0 n.0 n.1)
    ];
    apart = λ a b has_a has_b same. elim (moves.each a has_a) [
      | inl a_was ↦ elim (moves.each b has_b) [
        | inl b_was ↦ means.apart a b a_was.0 b_was.0 same
        | inr b_new ↦ absurd (never a b_new.0 a_was.1 b_new.2 (means.apart a b_new.0 a_was.0 b_new.1 (same ∙ ap rowid b_new.3 ∙ keeps_rowid b_new.0 b_new.1)))
      ]
      | inr a_new ↦ elim (moves.each b has_b) [
        | inl b_was ↦ absurd (never b a_new.0 b_was.1 a_new.2 (means.apart b a_new.0 b_was.0 a_new.1 (sym same ∙ ap rowid a_new.3 ∙ keeps_rowid a_new.0 a_new.1)))
        | inr b_new ↦
            let one : a_new.0 ≡ b_new.0 = means.apart a_new.0 b_new.0 a_new.1 b_new.1 (sym (keeps_rowid a_new.0 a_new.1) ∙ sym (ap rowid a_new.3) ∙ same ∙ ap rowid b_new.3 ∙ keeps_rowid b_new.0 b_new.1) in
            a_new.3 ∙ ap upd one ∙ sym b_new.3
      ]
    ];
  }

-- the rows without those whose entries pass the test
pub means_without : {K V : Type 0} {IsRow : Row → K → V → Type 0} {f : K → Option V} (test : K → Bool) (rows after : List Row) (p : Row → Bool)
    → RowsMean IsRow f rows → RowsGo rows after p → ((r : Row) (k : K) (v : V) → IsRow r k v → p r ≡ test k) → RowsMean IsRow (without test f) after
means_without test rows after p means go agrees = record {
  each = λ x has. let was = go.each x has in let e = means.each x was.0 in (e.0, e.1, e.2, rw (sym (agrees x e.0 e.1 e.2) ∙ was.1) e.3);
  all = λ k v some. elim (cases_Bool (test k)) [
    | inl gone ↦ absurd (let e = rw gone at some in cc)
    | inr stays ↦ let r = means.all k v (rw stays at some) in (r.0, go.stays r.0 r.1 (agrees r.0 k v r.2 ∙ stays), r.2)
  ];
  keyed = λ x has. means.keyed x (go.each x has).0;
  apart = λ a b has_a has_b. means.apart a b (go.each a has_a).0 (go.each b has_b).0;
}
