-- A sum over the entries of a finite map, when one entry is inserted or removed.
use Rattle.std.proofs.Common.{◌≡◌, ◌∙◌, ℕ, ◌+◌, ◌<◌, Bool, true, false, cond, List, [], ◌∷◌, Option, Some, None, refl, sym, ap, subst, arith}
use Rattle.std.specs.Prelude.{T, ◌&&◌, option_map, unwrap_or}
use Rattle.std.specs.List.{sum_by, count_by, filter}
use Rattle.std.specs.declared.cmp.Ordering.{Ordering}
use Rattle.std.specs.declared.cmp.Ordering.TheVariants.{Less, Equal, Greater}
use Rattle.std.specs.Ordering.{is_eq, is_lt, eq_by_cmp}
use Rattle.std.specs.Cmp.{IsTotalOrder, tied_itself}
use Rattle.std.specs.FinMap.{FinMap, get, insert, remove, entries, find, put, is_sorted, entries-insert, entries_sorted, get-insert, get-remove, same_map, get-entries, IsAntisymmetric}
use Rattle.std.specs.FinMap.Entries.{by_order, below_all}
use Rattle.std.proofs.lemmas.List.Sums.{sum_by-cons}
use Rattle.boxes.proofs.Lookups.{some_none}

first : (a b : Bool) → T (a && b) → T a
first true b p = tt
first false b p = absurd p

second : (a b : Bool) → T (a && b) → T b
second true b p = p
second false b p = absurd p

both : (a b : Bool) → T a → T b → T (a && b)
both true b p q = q
both false b p q = absurd p

less : (o : Ordering) → T (is_lt o) → o ≡ Less
less Less p = refl
less Equal p = absurd p
less Greater p = absurd p

equal : (o : Ordering) → T (is_eq o) → o ≡ Equal
equal Less p = absurd p
equal Equal p = refl
equal Greater p = absurd p

-- the weight of an optional value: 0 if there is none
abbrev pub weight : {K X : Type 0} → (K × X → ℕ) → K → Option X → ℕ
weight w k o = unwrap_or (option_map (λ x. w (k, x)) o) 0

module _ {K X : Type 0} (R : K → K → Ordering) (o : IsTotalOrder R) (same : IsAntisymmetric R) (w : K × X → ℕ) where
  below-less : (x y : K) (es : List (K × X)) → R x y ≡ Less → T (below_all R y es) → T (below_all R x es)
  below-less x y [] p h = tt
  below-less x y (e ∷ es) p h = both _ _ (subst (λ r. T (is_lt r)) (sym (o.trans x y e.0 p (less _ (first _ _ h)))) tt) (below-less x y es p (second _ _ h))

  find-below : (q : K) (es : List (K × X)) → T (below_all R q es) → find R q es ≡ None
  find-below q [] h = refl
  find-below q (e ∷ es) h = ap (λ r. cond (is_eq r) (Some e.1) (find R q es)) (less _ (first _ _ h)) ∙ find-below q es (second _ _ h)

  -- the new sum plus the old value's weight is the old sum plus the new value's weight
  sum-put : (k : K) (v : X) (es : List (K × X)) → T (is_sorted R es) → sum_by w (put R k v es) + weight w k (find R k es) ≡ sum_by w es + w (k, v)
  sum-put k v [] h = omega arith
  sum-put k v (e ∷ es) h =
      elim (R k e.0) as (λ r. R k e.0 ≡ r → sum_by w (by_order r ((k, v) ∷ e ∷ es) ((e.0, v) ∷ es) (e ∷ put R k v es)) + weight w k (cond (is_eq r) (Some e.1) (find R k es)) ≡ sum_by w (e ∷ es) + w (k, v)) [
        | Less ↦ λ p. let none = find-below k es (below-less k e.0 es p (first _ _ h)) in
            rw (none, sum_by-cons w (k, v) (e ∷ es)) (omega arith)
        | Equal ↦ λ p. let e' = same k e.0 p in
            subst (λ (x : K). sum_by w ((x, v) ∷ es) + w (k, e.1) ≡ sum_by w ((x, e.1) ∷ es) + w (k, v)) e' (rw (sum_by-cons w (k, v) es, sum_by-cons w (k, e.1) es) (omega arith))
        | Greater ↦ λ p. let rest = sum-put k v es (second _ _ h) in
            rw (sum_by-cons w e (put R k v es), sum_by-cons w e es) ((let r : sum_by w (put R k v es) + weight w k (find R k es) ≡ sum_by w es + w (k, v) = rest in omega arith))
      ] refl

  pub sum-insert : (m : FinMap R X) (k : K) (v : X) → sum_by w (entries (insert m k v)) + weight w k (get m k) ≡ sum_by w (entries m) + w (k, v)
  sum-insert m k v = rw (entries-insert o m k v, get-entries m k) (sum-put k v (entries m) (entries_sorted m))

  put_back : (m : FinMap R X) (k : K) (v : X) → get m k ≡ Some v → insert (remove m k) k v ≡ m
  put_back m k v there = same_map o same _ _ (λ q. get-insert o (remove m k) k v q ∙ ap (cond (eq_by_cmp R q k) (Some v)) (get-remove o m k q)
      ∙ elim (eq_by_cmp R q k) as (λ b. eq_by_cmp R q k ≡ b → cond b (Some v) (cond b None (get m q)) ≡ get m q) [
        | true ↦ λ t. sym (ap (get m) (same q k (equal _ (subst T (sym t) tt))) ∙ there)
        | false ↦ λ t. refl
      ] refl)

  pub sum-remove : (m : FinMap R X) (k : K) (v : X) → get m k ≡ Some v → sum_by w (entries (remove m k)) + w (k, v) ≡ sum_by w (entries m)
  sum-remove m k v there =
      let sum = sum-insert (remove m k) k v in
      let gone : get (remove m k) k ≡ None = get-remove o m k k ∙ ap (λ r. cond (is_eq r) None (get m k)) (tied_itself o k) in
      let zero : weight w k (get (remove m k) k) ≡ 0 = ap (weight w k) gone in
      let back : sum_by w (entries (insert (remove m k) k v)) ≡ sum_by w (entries m) = ap (λ n. sum_by w (entries n)) (put_back m k v there) in
      omega arith

module _ {K X : Type 0} (R : K → K → Ordering) (o : IsTotalOrder R) (same : IsAntisymmetric R) (p : K × X → Bool) where
  below-tied : (x y : K) (es : List (K × X)) → R x y ≡ Equal → T (below_all R y es) → T (below_all R x es)
  below-tied x y [] q h = tt
  below-tied x y (e ∷ es) q h = both _ _ (subst (λ r. T (is_lt r)) (sym (o.congr x y e.0 q)) (first _ _ h)) (below-tied x y es q (second _ _ h))

  not-found : (q : K) (es : List (K × X)) → T (below_all R q es) → find R q es ≡ None
  not-found q [] h = refl
  not-found q (e ∷ es) h = ap (λ r. cond (is_eq r) (Some e.1) (find R q es)) (less _ (first _ _ h)) ∙ not-found q es (second _ _ h)

  none-pass : (es : List (K × X)) → T (is_sorted R es) → ((k : K) (v : X) → find R k es ≡ Some v → p (k, v) ≡ false) → filter p es ≡ []
  none-pass [] h each = refl
  none-pass (e ∷ es) h each =
      let here : p e ≡ false = each e.0 e.1 (ap (λ r. cond (is_eq r) (Some e.1) (find R e.0 es)) (tied_itself o e.0)) in
      let rest : filter p es ≡ [] = none-pass es (second _ _ h) (λ k v f. each k v (
      elim (eq_by_cmp R k e.0) as (λ b. eq_by_cmp R k e.0 ≡ b → cond b (Some e.1) (find R k es) ≡ Some v) [
        | true ↦ λ t. absurd (some_none v (sym f ∙ not-found k es (below-tied k e.0 es (equal _ (subst T (sym t) tt)) (first _ _ h))))
        | false ↦ λ t. f
      ] refl)) in
      ap (λ b. cond b (e ∷ filter p es) (filter p es)) here ∙ rest

  -- the filtered list is empty if no entry passes
  pub filter-none : (m : FinMap R X) → ((k : K) (v : X) → get m k ≡ Some v → p (k, v) ≡ false) → filter p (entries m) ≡ []
  filter-none m each = none-pass (entries m) (entries_sorted m) (λ k v f. each k v (get-entries m k ∙ f))

  still-found : (q : K) (v : X) (e : K × X) (es : List (K × X)) → T (below_all R e.0 es) → find R q es ≡ Some v → find R q (e ∷ es) ≡ Some v
  still-found q v e es h found =
      elim (eq_by_cmp R q e.0) as (λ b. eq_by_cmp R q e.0 ≡ b → cond b (Some e.1) (find R q es) ≡ Some v) [
        | true ↦ λ t. absurd (some_none v (sym found ∙ not-found q es (below-tied q e.0 es (equal _ (subst T (sym t) tt)) h)))
        | false ↦ λ t. found
      ] refl

  abbrev one-if : K × X → ℕ
  one-if e = cond (p e) 1 0

  found-passing : (es : List (K × X)) → T (is_sorted R es) → 0 < count_by p es → (k : K) × (v : X) × (find R k es ≡ Some v) × (p (k, v) ≡ true)
  found-passing [] h some = absurd (omega arith)
  found-passing (e ∷ es) h some =
      elim (p e) as (λ b. p e ≡ b → (k : K) × (v : X) × (find R k (e ∷ es) ≡ Some v) × (p (k, v) ≡ true)) [
        | true ↦ λ t. (e.0, e.1, ap (λ r. cond (is_eq r) (Some e.1) (find R e.0 es)) (tied_itself o e.0), t)
        | false ↦ λ t.
            let fewer : count_by p (e ∷ es) ≡ one-if e + count_by p es = sum_by-cons one-if e es in
            let none : one-if e ≡ 0 = ap (λ (b : Bool). cond {A = ℕ} b 1 0) t in
            let more : 0 < count_by p es = omega (arith, none, fewer, some) in
            let it = found-passing es (second _ _ h) more in
            let here : find R it.0 (e ∷ es) ≡ Some it.1 = still-found it.0 it.1 e es (first _ _ h) it.2 in
            (it.0, it.1, here, it.3)
      ] refl

  -- if some entries pass, one of them can be found
  pub one-passes : (m : FinMap R X) → 0 < count_by p (entries m) → (k : K) × (v : X) × (get m k ≡ Some v) × (p (k, v) ≡ true)
  one-passes m some =
      let it = found-passing (entries m) (entries_sorted m) some in
      (it.0, it.1, get-entries m it.0 ∙ it.2, it.3)

-- a sum over the elements that pass, written as a sum over all elements
pub sum-filter : {A : Type 0} (p : A → Bool) (f : A → ℕ) (xs : List A) → sum_by f (filter p xs) ≡ sum_by (λ x. cond (p x) (f x) 0) xs
sum-filter p f [] = refl
sum-filter p f (x ∷ xs) =
    elim (p x) as (λ b. sum_by f (cond b (x ∷ filter p xs) (filter p xs)) ≡ cond b (f x) 0 + sum_by (λ x. cond (p x) (f x) 0) xs) [
      | true ↦ sum_by-cons f x (filter p xs) ∙ ap (λ n. f x + n) (sum-filter p f xs)
      | false ↦ sum-filter p f xs ∙ omega arith
    ] ∙ sym (sum_by-cons (λ x. cond (p x) (f x) 0) x xs)
