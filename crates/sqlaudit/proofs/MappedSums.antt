-- Sums over the entries of a map whose values were replaced.
use Rattle.std.proofs.Common.{◌≡◌, ◌∙◌, ℕ, suc, ◌+◌, Bool, true, false, cond, not, List, [], ◌∷◌, length, Some, refl, sym, ap, ap₂}
use Rattle.std.specs.Prelude.{nat_eq, filter, sum_by}
use Rattle.std.specs.List.{AllByRecursion}
use Rattle.std.specs.declared.cmp.Ordering.{Ordering}
use Rattle.std.specs.Cmp.{IsTotalOrder}
use Rattle.std.specs.FinMap.{FinMap, IsAntisymmetric, get, entries}
use Rattle.std.proofs.lemmas.Bool.{eqb-true, eq-eqb}
use Rattle.std.proofs.lemmas.List.Sums.{sum_by-cons}
use Rattle.boxes.proofs.EntrySums.{filter-none}
use Rattle.sqlaudit.proofs.Mapped.{with_values, mapped, entries_mapped}

-- if no item passes, each item fails
each_fails : {X : Type 0} (p : X → Bool) (xs : List X) → filter p xs ≡ [] → AllByRecursion (λ x. p x ≡ false) xs
each_fails p [] none = tt
each_fails p (x ∷ xs) none = go (p x) refl none (each_fails p xs)
  where
    go : (b : Bool) → p x ≡ b → cond b (x ∷ filter p xs) (filter p xs) ≡ [] → (filter p xs ≡ [] → AllByRecursion (λ y. p y ≡ false) xs) → (p x ≡ false) × AllByRecursion (λ y. p y ≡ false) xs
    go true is h later = absurd cc
    go false is h later = (is, later h)

was_true : (b : Bool) → not b ≡ false → b ≡ true
was_true true h = refl
was_true false h = absurd cc

module _ {K V W : Type 0} (R : K → K → Ordering) (f : K → V → W) (p : K → Bool) where
  sums_over : (w : K × W → ℕ) (u : K × V → ℕ) (es : List (K × V)) → AllByRecursion (λ e. not (nat_eq (w (e.0, f e.0 e.1)) (u e)) ≡ false) es
      → sum_by w (filter (λ e. p e.0) (with_values R f es)) ≡ sum_by u (filter (λ e. p e.0) es)
  sums_over w u [] all = refl
  sums_over w u (e ∷ es) all =
      elim (p e.0) as (λ b. sum_by w (cond b ((e.0, f e.0 e.1) ∷ filter (λ x. p x.0) (with_values R f es)) (filter (λ x. p x.0) (with_values R f es))) ≡ sum_by u (cond b (e ∷ filter (λ x. p x.0) es) (filter (λ x. p x.0) es))) [
        | true ↦
            let same : w (e.0, f e.0 e.1) ≡ u e = eqb-true (w (e.0, f e.0 e.1)) (u e) (was_true (nat_eq (w (e.0, f e.0 e.1)) (u e)) all.0) in
            sum_by-cons w (e.0, f e.0 e.1) (filter (λ x. p x.0) (with_values R f es)) ∙ ap₂ ◌+◌ same (sums_over w u es all.1) ∙ sym (sum_by-cons u e (filter (λ x. p x.0) es))
        | false ↦ sums_over w u es all.1
      ]

  as_many : (es : List (K × V)) → length (filter (λ e. p e.0) (with_values R f es)) ≡ length (filter (λ e. p e.0) es)
  as_many [] = refl
  as_many (e ∷ es) =
      elim (p e.0) as (λ b. length (cond b ((e.0, f e.0 e.1) ∷ filter (λ x. p x.0) (with_values R f es)) (filter (λ x. p x.0) (with_values R f es))) ≡ length (cond b (e ∷ filter (λ x. p x.0) es) (filter (λ x. p x.0) es))) [
        | true ↦ ap suc (as_many es)
        | false ↦ as_many es
      ]

  -- the sum of the replacement values
  pub sum_mapped : IsTotalOrder R → IsAntisymmetric R → (m : FinMap R V) (w : K × W → ℕ) (u : K × V → ℕ) → ((k : K) (v : V) → get m k ≡ Some v → w (k, f k v) ≡ u (k, v))
      → sum_by w (filter (λ e. p e.0) (entries (mapped R f m))) ≡ sum_by u (filter (λ e. p e.0) (entries m))
  sum_mapped o same m w u alike =
      ap (λ es. sum_by w (filter (λ e. p e.0) es)) (entries_mapped R f m)
      ∙ sums_over w u (entries m) (each_fails (λ e. not (nat_eq (w (e.0, f e.0 e.1)) (u e))) (entries m)
      (filter-none R o same (λ e. not (nat_eq (w (e.0, f e.0 e.1)) (u e))) m (λ k v there. ap not (eq-eqb (w (k, f k v)) (u (k, v)) (alike k v there)))))

  pub count_mapped : (m : FinMap R V) → length (filter (λ e. p e.0) (entries (mapped R f m))) ≡ length (filter (λ e. p e.0) (entries m))
  count_mapped m = ap (λ es. length (filter (λ e. p e.0) es)) (entries_mapped R f m) ∙ as_many (entries m)
