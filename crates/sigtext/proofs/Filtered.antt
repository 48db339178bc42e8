-- Filters of rearranged lists, and of strictly ascending lists.
use Rattle.std.proofs.Common.{◌≡◌, ℕ, zero, suc, ◌<◌, Bool, true, false, cond, List, [], ◌∷◌, length, get_or, refl, ap, arith}
use Rattle.std.specs.Prelude.{IsPermutation, IsTrue, map, filter}
use Rattle.std.specs.List.{swap}
use Rattle.std.specs.Ordering.{is_lt}
use Rattle.std.specs.declared.cmp.Ordering.TheVariants.{Less}
use Rattle.std.proofs.Math.ListN.{set}
use Rattle.std.proofs.lemmas.Bool.{and_from}
use Rattle.std.proofs.lemmas.List.Elements.{All-head, All-filter}
use Rattle.std.proofs.lemmas.List.Sorted.{IsPermutation-refl, IsPermutation-cons, IsPermutation-trans, IsPermutation-keeps, IsPermutation-middle}
use Rattle.sigtext.specs.Bytes.{bytes_cmp}
use Rattle.sigtext.specs.CanonicalQuery.{ascends}
use Rattle.sigtext.proofs.Ascending.{BelowAll, ascends-head, ascends-tail}

-- ---- a rearrangement

module _ {X : Type 0} (p : X → Bool) where
  -- the filter of the second list rearranges that of the first
  abbrev Moves : List X → List X → Type 0
  Moves xs ys = IsPermutation (filter p xs) (filter p ys)

  behind : (b : Bool) (x : X) (us vs : List X) → IsPermutation us vs → IsPermutation (cond b (x ∷ us) us) (cond b (x ∷ vs) vs)
  behind true x us vs h = IsPermutation-cons x us vs h
  behind false x us vs h = h

  exchanged : (b c : Bool) (x y : X) (us : List X) → IsPermutation (cond b (x ∷ cond c (y ∷ us) us) (cond c (y ∷ us) us)) (cond c (y ∷ cond b (x ∷ us) us) (cond b (x ∷ us) us))
  exchanged true true x y us = IsPermutation-middle (x ∷ []) y us
  exchanged true false x y us = IsPermutation-refl (x ∷ us)
  exchanged false true x y us = IsPermutation-refl (y ∷ us)
  exchanged false false x y us = IsPermutation-refl us

  -- the first element moves to a later place
  first_moves : (x : X) (xs : List X) (j : ℕ) (d : X) → j < length xs → Moves (x ∷ xs) (get_or xs j d ∷ set xs j x)
  first_moves x [] j d within = absurd (omega arith)
  first_moves x (y ∷ xs) zero d within = exchanged (p x) (p y) x y (filter p xs)
  first_moves x (y ∷ xs) (suc j) d within =
      let z = get_or xs j d in
      let others = set xs j x in
      IsPermutation-trans _ _ _ (exchanged (p x) (p y) x y (filter p xs))
      (IsPermutation-trans _ _ _ (behind (p y) y (filter p (x ∷ xs)) (filter p (z ∷ others)) (first_moves x xs j d (omega arith)))
      (exchanged (p y) (p z) y z (filter p others)))

  two_move : (xs : List X) (i j : ℕ) (d : X) → i < length xs → j < length xs → Moves xs (set (set xs i (get_or xs j d)) j (get_or xs i d))
  two_move [] i j d low high = absurd (omega arith)
  two_move (x ∷ xs) zero zero d low high = IsPermutation-refl (filter p (x ∷ xs))
  two_move (x ∷ xs) zero (suc j) d low high = first_moves x xs j d (omega arith)
  two_move (x ∷ xs) (suc i) zero d low high = first_moves x xs i d (omega arith)
  two_move (x ∷ xs) (suc i) (suc j) d low high = behind (p x) x (filter p xs) _ (two_move xs i j d (omega arith) (omega arith))

  swap_moves : (xs : List X) (i j : ℕ) → i < length xs → j < length xs → Moves xs (swap xs i j)
  swap_moves [] i j low high = absurd (omega arith)
  swap_moves (x ∷ xs) i j low high = two_move (x ∷ xs) i j x low high

  pub IsPermutation-filter : (xs ys : List X) → IsPermutation xs ys → IsPermutation (filter p xs) (filter p ys)
  IsPermutation-filter xs ys h =
      IsPermutation-keeps xs (Moves xs) (IsPermutation-refl (filter p xs)) (λ l i j low high sofar. IsPermutation-trans _ _ _ sofar (swap_moves l i j low high)) ys h

-- ---- strictly ascending

module _ {X : Type 0} (key : X → List ℕ) where
  ascends-cons : (x : X) (xs : List X) → BelowAll key (key x) xs → IsTrue (ascends (map key xs)) → IsTrue (ascends (map key (x ∷ xs)))
  ascends-cons x [] above up = refl
  ascends-cons x (y ∷ ys) above up =
      and_from (is_lt (bytes_cmp (key x) (key y))) (ascends (map key (y ∷ ys))) (ap is_lt (All-head (λ z. bytes_cmp (key x) (key z) ≡ Less) y ys above)) up

  kept : (b : Bool) (x : X) (xs : List X) → BelowAll key (key x) xs → IsTrue (ascends (map key xs)) → IsTrue (ascends (map key (cond b (x ∷ xs) xs)))
  kept true x xs above up = ascends-cons x xs above up
  kept false x xs above up = up

  pub ascends-filter : (p : X → Bool) (xs : List X) → IsTrue (ascends (map key xs)) → IsTrue (ascends (map key (filter p xs)))
  ascends-filter p [] up = refl
  ascends-filter p (x ∷ xs) up =
      kept (p x) x (filter p xs) (All-filter p (λ z. bytes_cmp (key x) (key z) ≡ Less) xs (ascends-head key x xs up)) (ascends-filter p xs (ascends-tail key x xs up))
