-- The boxes of a limited key, listed in order.
use Rattle.std.proofs.Common.{◌≡◌, ◌∙◌, ℕ, List, [], ◌∷◌, ◌++◌, length, Some, None, Contains, inl, inr, refl, sym, ap, subst, arith, length-append}
use Rattle.std.specs.Prelude.{◌⊎◌}
use Rattle.std.specs.List.{AllByRecursion}
use Rattle.std.specs.List.Sorted.{IsStrictlySortedBy}
use Rattle.std.specs.declared.cmp.Ordering.{Ordering}
use Rattle.std.specs.declared.cmp.Ordering.TheVariants.{Less, Equal, Greater}
use Rattle.std.specs.Cmp.{IsTotalOrder}
use Rattle.std.specs.FinMap.{IsAntisymmetric}
use Rattle.std.proofs.lemmas.List.Elements.{Contains-append_left, Contains-push, Contains-push_cases}
use Rattle.sigtext.specs.Bytes.{bytes_cmp}
use Rattle.boxes.specs.Sound.{IsSound}
use Rattle.boxes.specs.State.{State}
use Rattle.boxes.proofs.Lookups.{bytes_same, bytes_total}
use Rattle.boxes.specs.Next.{IsLimit, IsNext}
use Rattle.lists.specs.Keys.{AreLimits, IsLast}
use Rattle.lists.proofs.NextFiles.{box_behind}
use Rattle.lists.proofs.Orders.{not_itself, turned}

module _ {K : Type 0} (R : K → K → Ordering) where
  -- The listed keys satisfy `Stands` and are sorted. Every other key that satisfies it comes after this key.
  pub record Told (Stands : K → Type 0) (told : List K) (after : K) : Type 0 where
    pub each : (k : K) → Contains told k → Stands k
    pub ascend : IsStrictlySortedBy R told
    pub passed : AllByRecursion (λ k. R after k ≡ Less → ⊥) told
    pub others : (k : K) → Stands k → Contains told k ⊎ (R after k ≡ Less)

  pub none_told : (Stands : K → Type 0) (after : K) → ((k : K) → Stands k → R after k ≡ Less) → Told Stands [] after
  unfolding IsStrictlySortedBy
  none_told Stands after behind = record {
    each = λ k (i, within, is). absurd (omega (arith, within));
    ascend = tt;
    passed = tt;
    others = λ k stands. inr (behind k stands);
  }

  ascend_push : (told : List K) (k : K) → IsStrictlySortedBy R told → AllByRecursion (λ x. R x k ≡ Less) told → IsStrictlySortedBy R (told ++ k ∷ [])
  unfolding IsStrictlySortedBy
  ascend_push [] k sorted below = (tt, tt)
  ascend_push (x ∷ told) k (first, rest) (less, below) = (push told first, ascend_push told k rest below)
    where
      push : (ys : List K) → AllByRecursion (λ y. R x y ≡ Less) ys → AllByRecursion (λ y. R x y ≡ Less) (ys ++ k ∷ [])
      push [] all = (less, tt)
      push (y ∷ ys) all = (all.0, push ys all.1)

  module _ (total : IsTotalOrder R) (same : IsAntisymmetric R) where
    below : (after x k : K) → (R after x ≡ Less → ⊥) → R after k ≡ Less → R x k ≡ Less
    below after x k passed less = go (R after x) refl
      where
        go : (r : Ordering) → R after x ≡ r → R x k ≡ Less
        go Less e = absurd (passed e)
        go Equal e = sym (total.congr after x k e) ∙ less
        go Greater e = total.trans x after k (total.antisymm x after ∙ turned (R after x) e) less

    all_below : (told : List K) (after k : K) → AllByRecursion (λ x. R after x ≡ Less → ⊥) told → R after k ≡ Less → AllByRecursion (λ x. R x k ≡ Less) told
    all_below [] after k passed less = tt
    all_below (x ∷ told) after k passed less = (below after x k passed.0 less, all_below told after k passed.1 less)

    still_passed : (told : List K) (k : K) → AllByRecursion (λ x. R x k ≡ Less) told → AllByRecursion (λ x. R k x ≡ Less → ⊥) (told ++ k ∷ [])
    still_passed [] k lower = ((λ l. not_itself total k l), tt)
    still_passed (x ∷ told) k lower = ((λ l. not_itself total x (total.trans x k x lower.0 l)), still_passed told k lower.1)

    pub told_more : (Stands : K → Type 0) (told : List K) (after k : K) → Told Stands told after → IsNext R Stands after (Some k) → Told Stands (told ++ k ∷ []) k
    told_more Stands told after k it (stands, behind, least) = record {
      each = λ x here. either x (Contains-push_cases told k x here);
      ascend = ascend_push told k it.ascend lower;
      passed = still_passed told k lower;
      others = λ x there. sorted x there (it.others x there);
    }
      where
        lower : AllByRecursion (λ x. R x k ≡ Less) told
        lower = all_below told after k it.passed behind

        either : (x : K) → Contains told x ⊎ (k ≡ x) → Stands x
        either x (inl here) = it.each x here
        either x (inr is) = subst Stands is stands

        sorted : (x : K) → Stands x → Contains told x ⊎ (R after x ≡ Less) → Contains (told ++ k ∷ []) x ⊎ (R k x ≡ Less)
        sorted x there (inl here) = inl (Contains-append_left told (k ∷ []) x here)
        sorted x there (inr less) = go (R k x) refl
          where
            go : (r : Ordering) → R k x ≡ r → Contains (told ++ k ∷ []) x ⊎ (R k x ≡ Less)
            go Less e = inr e
            go Equal e = inl (subst (Contains (told ++ k ∷ [])) (same k x e) (Contains-push told k))
            go Greater e = absurd (least x there less (total.antisymm x k ∙ turned (R k x) e))

-- ---- the last listed key

no_end : (front : List (List ℕ)) (last : List ℕ) → [] ≡ front ++ last ∷ [] → ⊥
no_end front last e = omega (arith, ap length e, length-append front (last ∷ []))

pub last_of_none : (last : List ℕ) → IsLast [] last → last ≡ []
last_of_none last (inl is) = is.1
last_of_none last (inr (front, is)) = absurd (no_end front last is)

ends_alike : (xs ys : List (List ℕ)) (x y : List ℕ) → xs ++ x ∷ [] ≡ ys ++ y ∷ [] → x ≡ y
ends_alike [] [] x y e = cc
ends_alike [] (b ∷ ys) x y e = let rest : [] ≡ ys ++ y ∷ [] = cc in absurd (no_end ys y rest)
ends_alike (a ∷ xs) [] x y e = let rest : [] ≡ xs ++ x ∷ [] = cc in absurd (no_end xs x rest)
ends_alike (a ∷ xs) (b ∷ ys) x y e = let rest : xs ++ x ∷ [] ≡ ys ++ y ∷ [] = cc in ends_alike xs ys x y rest

pub last_of_more : (told : List (List ℕ)) (k last : List ℕ) → IsLast (told ++ k ∷ []) last → k ≡ last
last_of_more told k last (inl is) = absurd (no_end told k (sym is.0))
last_of_more told k last (inr (front, is)) = ends_alike told front k last is

-- ---- the boxes of a key

pub limit_behind : (s : State) (id box : List ℕ) → IsSound s → IsLimit s id box → bytes_cmp [] box ≡ Less
limit_behind s id box sound limit =
    box_behind s box sound (sound.limits id box limit).box_there

pub told_all : (s : State) (id after : List ℕ) (boxes : List (List ℕ)) → Told bytes_cmp (IsLimit s id) boxes after
    → IsNext bytes_cmp (IsLimit s id) after None → AreLimits s id boxes
told_all s id after boxes it none = record {
  each = λ box. (it.each box, λ limit. there box limit (it.others box limit));
  ascend = it.ascend;
}
  where
    there : (box : List ℕ) → IsLimit s id box → Contains boxes box ⊎ (bytes_cmp after box ≡ Less) → Contains boxes box
    there box limit (inl here) = here
    there box limit (inr less) = absurd (none box limit less)

pub told_first : (s : State) (id last : List ℕ) (boxes : List (List ℕ)) → IsSound s → boxes ≡ [] → IsLast boxes last → Told bytes_cmp (IsLimit s id) boxes last
told_first s id last boxes sound none is =
    let empty = last_of_none last (subst (λ (b : List (List ℕ)). IsLast b last) none is) in
    subst (λ (l : List ℕ). Told bytes_cmp (IsLimit s id) boxes l) (sym empty)
    (subst (λ (b : List (List ℕ)). Told bytes_cmp (IsLimit s id) b []) (sym none) (none_told bytes_cmp (IsLimit s id) [] (λ k limit. limit_behind s id k sound limit)))

pub told_next : (s : State) (id after k last : List ℕ) (boxes more : List (List ℕ)) → Told bytes_cmp (IsLimit s id) boxes after
    → IsNext bytes_cmp (IsLimit s id) after (Some k) → more ≡ boxes ++ k ∷ [] → IsLast more last → Told bytes_cmp (IsLimit s id) more last
told_next s id after k last boxes more it next are is =
    let end = last_of_more boxes k last (subst (λ (b : List (List ℕ)). IsLast b last) are is) in
    subst (λ (l : List ℕ). Told bytes_cmp (IsLimit s id) more l) end
    (subst (λ (b : List (List ℕ)). Told bytes_cmp (IsLimit s id) b k) (sym are) (told_more bytes_cmp bytes_total bytes_same (IsLimit s id) boxes after k it next))
