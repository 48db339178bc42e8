-- Lists in which each element is below the next.
use Rattle.std.proofs.Common.{◌+◌, List, [], ◌∷◌, length, get_or, arith, subst₂}
use Rattle.std.specs.List.{AllAdjacentBelow}
use Rattle.std.proofs.Math.Numerals.{add-one}
use Rattle.sqlite_trees.specs.Tree.{IsAscending}
use Rattle.sqlite_trees.proofs.ListLemmas.{all_weaker}

module _ {X : Type 0} (below : X → X → Type 0) (through : (a b c : X) → below a b → below b c → below a c) where
  pub rises : (xs : List X) → AllAdjacentBelow below xs (length xs) → IsAscending below xs
  rises [] next = tt
  rises (n ∷ []) next = (tt, tt)
  rises (n ∷ m ∷ xs) next =
      let first : below n m = next 0 n (omega arith) in
      let later : AllAdjacentBelow below (m ∷ xs) (length (m ∷ xs)) = λ k d h.
      subst₂ (λ i j. below (get_or (n ∷ m ∷ xs) i d) (get_or (n ∷ m ∷ xs) j d)) (add-one k) (add-one (k + 1)) (next (k + 1) d (omega (arith, h))) in
      let rest = rises (m ∷ xs) later in
      ((first, all_weaker (below m) (below n) (λ x. through n m x first) xs rest.0), rest)
