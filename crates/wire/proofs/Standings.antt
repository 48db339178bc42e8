-- The connections that went and those in slots, as one list, and how it changes when a slot changes.
use Rattle.std.proofs.Common.{◌≡◌, ◌<◌, ℕ, zero, suc, List, [], ◌∷◌, ◌++◌, length, get_or, set, take, drop, remove, swap, IsPermutation, Option, Some, None, refl, sym, ap, subst, ◌∙◌, append_assoc, set-set, get_or-set_same, get_or-set_other, length-set, ⊎_elim, arith}
use Rattle.std.proofs.lemmas.Bool.{cases_eq}
use Rattle.std.proofs.lemmas.List.{set-get_or, set_comm, set_split}
use Rattle.std.proofs.lemmas.List.Edits.{length-swap, swap_is}
use Rattle.std.proofs.lemmas.List.Sorted.{IsPermutation-append_right, IsPermutation-cons, IsPermutation-keeps, IsPermutation-middle, IsPermutation-refl, IsPermutation-remove, IsPermutation-swap, IsPermutation-sym, IsPermutation-to_front, IsPermutation-trans}
use Rattle.wire.specs.Crowds.{slot_at, standing_in, those_of}

module _ {X : Type 0} where
  -- ---- one place of a list

  set_parts : (l : List X) (n : ℕ) (x : X) → n < length l → IsPermutation (set l n x) (x ∷ remove l n)
  set_parts l n x lt = subst (λ (m : List X). IsPermutation m (x ∷ remove l n)) (sym (set_split l n x lt)) (IsPermutation-middle (take n l) x (drop (suc n) l))

  -- swapping two places, after another item was put into the first, is swapping them and then putting it into
  -- the second
  swap_first : (l : List X) (i j : ℕ) (x : X) → i < length l → j < length l → swap (set l i x) i j ≡ set (swap l i j) j x
  swap_first l i j x lt lt' =
      let m = set l i x in
      let long = length-set l i x in
      let before : swap m i j ≡ set (set l i (get_or m j x)) j x =
      sym (swap_is m i j x (omega (arith, long, lt)) (omega (arith, long, lt'))) ∙ ap (λ (y : X). set (set m i (get_or m j x)) j y) (get_or-set_same l i x x lt) ∙ ap (λ (k : List X). set k j x) (set-set l i x (get_or m j x)) in
      let behind : set (swap l i j) j x ≡ set (set l i (get_or l j x)) j x =
      ap (λ (k : List X). set k j x) (sym (swap_is l i j x lt lt')) ∙ set-set (set l i (get_or l j x)) j (get_or l i x) x in
      let between : set (set l i (get_or m j x)) j x ≡ set (set l i (get_or l j x)) j x =
      ⊎_elim
      (λ (e : j ≡ i). subst (λ (k : ℕ). set (set l i (get_or m j x)) k x ≡ set (set l i (get_or l j x)) k x) (sym e) (set-set l i (get_or m j x) x ∙ sym (set-set l i (get_or l j x) x)))
      (λ (ne : j ≡ i → ⊥). ap (λ (y : X). set (set l i y) j x) (get_or-set_other l i j x x ne))
      (cases_eq j i) in
      before ∙ between ∙ sym behind

  swap_flips : (l : List X) (i j : ℕ) (d : X) → (i ≡ j → ⊥) → i < length l → j < length l → swap l i j ≡ swap l j i
  swap_flips l i j d ne lt lt' = sym (swap_is l i j d lt lt') ∙ set_comm l i j (get_or l j d) (get_or l i d) ne ∙ swap_is l j i d lt' lt

  -- the same when another item was put into a third place
  swap_other : (l : List X) (i j k : ℕ) (x : X) → (k ≡ i → ⊥) → (k ≡ j → ⊥) → i < length l → j < length l → swap (set l k x) i j ≡ set (swap l i j) k x
  swap_other l i j k x ni nj lt lt' =
      let m = set l k x in
      let long = length-set l k x in
      sym (swap_is m i j x (omega (arith, long, lt)) (omega (arith, long, lt')))
      ∙ ap (λ (y : X). set (set m i y) j (get_or m i x)) (get_or-set_other l k j x x (λ e. nj (sym e)))
      ∙ ap (λ (y : X). set (set m i (get_or l j x)) j y) (get_or-set_other l k i x x (λ e. ni (sym e)))
      ∙ ap (λ (n : List X). set n j (get_or l i x)) (set_comm l k i x (get_or l j x) ni)
      ∙ set_comm (set l i (get_or l j x)) k j x (get_or l i x) nj
      ∙ ap (λ (n : List X). set n k x) (swap_is l i j x lt lt')

  -- ---- putting another item into a place

  -- The list holds this item. With any other item in its place, the list is a permutation of that item and
  -- xs.
  abbrev Stands : X → List X → List X → Type 0
  Stands old xs l = (k : ℕ) × (k < length l) × (old ≡ get_or l k old) × ((new : X) → IsPermutation (new ∷ xs) (set l k new))

  module _ (old : X) (xs : List X) where
    stands_first : (l : List X) (i j k : ℕ) → i < length l → j < length l → k ≡ i → old ≡ get_or l k old → ((new : X) → IsPermutation (new ∷ xs) (set l k new)) → Stands old xs (swap l i j)
    stands_first l i j k lt lt' e is so =
        let long = length-set l i (get_or l j old) in
        let whole = length-swap l i j in
        let last : get_or (swap l i j) j old ≡ get_or l i old =
        ap (λ (m : List X). get_or m j old) (sym (swap_is l i j old lt lt')) ∙ get_or-set_same (set l i (get_or l j old)) j (get_or l i old) old (omega (arith, long, lt')) in (
          j,
          omega (arith, whole, lt'),
          is ∙ ap (λ (n : ℕ). get_or l n old) e ∙ sym last,
          λ new.
              let was : IsPermutation (new ∷ xs) (set l i new) = subst (λ (n : ℕ). IsPermutation (new ∷ xs) (set l n new)) e (so new) in
              let longer = length-set l i new in
              IsPermutation-trans _ _ _ was (IsPermutation-swap (set l i new) (set (swap l i j) j new) i j (omega (arith, longer, lt)) (omega (arith, longer, lt')) (sym (swap_first l i j new lt lt'))),
        )

    stands_other : (l : List X) (i j k : ℕ) → i < length l → j < length l → (k ≡ i → ⊥) → (k ≡ j → ⊥) → k < length l → old ≡ get_or l k old → ((new : X) → IsPermutation (new ∷ xs) (set l k new)) → Stands old xs (swap l i j)
    stands_other l i j k lt lt' ni nj within is so =
        let whole = length-swap l i j in
        let there : get_or (swap l i j) k old ≡ get_or l k old =
        ap (λ (m : List X). get_or m k old) (sym (swap_is l i j old lt lt')) ∙ get_or-set_other (set l i (get_or l j old)) j k (get_or l i old) old nj ∙ get_or-set_other l i k (get_or l j old) old ni in (
          k,
          omega (arith, whole, within),
          is ∙ sym there,
          λ new.
              let longer = length-set l k new in
              IsPermutation-trans _ _ _ (so new) (IsPermutation-swap (set l k new) (set (swap l i j) k new) i j (omega (arith, longer, lt)) (omega (arith, longer, lt')) (sym (swap_other l i j k new ni nj lt lt'))),
        )

    stands_swapped : (l : List X) (i j : ℕ) → i < length l → j < length l → Stands old xs l → Stands old xs (swap l i j)
    stands_swapped l i j lt lt' s =
        ⊎_elim
        (λ (e : s.0 ≡ i). stands_first l i j s.0 lt lt' e s.2 s.3)
        (λ (ni : s.0 ≡ i → ⊥). ⊎_elim
        (λ (e : s.0 ≡ j). subst (Stands old xs) (swap_flips l j i old (λ f. ni (e ∙ f)) lt' lt) (stands_first l j i s.0 lt' lt e s.2 s.3))
        (λ (nj : s.0 ≡ j → ⊥). stands_other l i j s.0 lt lt' ni nj s.1 s.2 s.3)
        (cases_eq s.0 j))
        (cases_eq s.0 i)

    -- one item before both lists, and another in its place
    stands_before : (ys : List X) → Stands old xs (old ∷ ys) → (new : X) → IsPermutation (new ∷ xs) (new ∷ ys)
    stands_before ys (zero, lt, is, so) new = so new
    stands_before ys (suc k, lt, is, so) new =
        let within : k < length ys = omega (arith, lt) in
        IsPermutation-trans _ _ _ (so new)
        (IsPermutation-trans _ _ _ (IsPermutation-cons old _ _ (set_parts ys k new within))
        (IsPermutation-trans _ _ _ (IsPermutation-swap (old ∷ new ∷ remove ys k) (new ∷ old ∷ remove ys k) 0 1 (omega arith) (omega arith) refl)
        (IsPermutation-cons new _ _ (IsPermutation-sym _ _ (IsPermutation-remove ys k old within is)))))

    another_first : (ys : List X) → IsPermutation (old ∷ xs) (old ∷ ys) → (new : X) → IsPermutation (new ∷ xs) (new ∷ ys)
    another_first ys same = stands_before ys (IsPermutation-keeps (old ∷ xs) (Stands old xs) (0, omega arith, refl, λ new. IsPermutation-refl (new ∷ xs)) stands_swapped (old ∷ ys) same)

  -- ---- slots

  -- the item in a slot, and those in the other slots
  slot_parts : (slots : List (Option X)) (p : ℕ) (x : X) → p < length slots → IsPermutation (standing_in (set slots p (Some x))) (x ∷ standing_in (set slots p None))
  slot_parts [] p x lt = absurd (omega (arith, lt))
  slot_parts (o ∷ slots) zero x lt = IsPermutation-refl (x ∷ standing_in slots)
  slot_parts (o ∷ slots) (suc p) x lt =
      IsPermutation-trans _ _ _ (IsPermutation-append_right (those_of o) _ _ (slot_parts slots p x (omega (arith, lt)))) (IsPermutation-middle (those_of o) x (standing_in (set slots p None)))

  slot_stays : (slots : List (Option X)) (p : ℕ) (o : Option X) → slot_at slots p ≡ o → set slots p o ≡ slots
  slot_stays slots p o at = ap (set slots p) (sym at) ∙ set-get_or slots p None

  slot_goes : (slots : List (Option X)) (p : ℕ) (old : X) → p < length slots → slot_at slots p ≡ Some old → IsPermutation (standing_in slots) (old ∷ standing_in (set slots p None))
  slot_goes slots p old lt at = subst (λ (l : List (Option X)). IsPermutation (standing_in l) (old ∷ standing_in (set slots p None))) (slot_stays slots p (Some old) at) (slot_parts slots p old lt)

  slot_comes : (slots : List (Option X)) (p : ℕ) (new : X) → p < length slots → slot_at slots p ≡ None → IsPermutation (standing_in (set slots p (Some new))) (new ∷ standing_in slots)
  slot_comes slots p new lt free = subst (λ (l : List (Option X)). IsPermutation (standing_in (set slots p (Some new))) (new ∷ standing_in l)) (slot_stays slots p None free) (slot_parts slots p new lt)

  -- an item before those that stand, and after those that went
  between_both : (gone standing rest : List X) (x : X) → IsPermutation standing (x ∷ rest) → IsPermutation (gone ++ standing) (x ∷ gone ++ rest)
  between_both gone standing rest x parts = IsPermutation-trans _ _ _ (IsPermutation-append_right gone standing (x ∷ rest) parts) (IsPermutation-middle gone x rest)

  -- ---- all connections that came

  pub all_none : (slots : List (Option X)) → ((p : ℕ) → slot_at slots p ≡ None) → IsPermutation [] ([] ++ standing_in slots)
  all_none slots free = subst (λ (l : List X). IsPermutation [] l) (sym (none_stands slots free)) (IsPermutation-refl [])
    where
      none_stands : (slots : List (Option X)) → ((p : ℕ) → slot_at slots p ≡ None) → standing_in slots ≡ []
      none_stands [] free = refl
      none_stands (o ∷ slots) free = ap (λ (v : Option X). those_of v ++ standing_in slots) (free 0) ∙ none_stands slots (λ p. free (suc p))

  module _ (seats gone : List X) (slots : List (Option X)) (all : IsPermutation seats (gone ++ standing_in slots)) (p : ℕ) (lt : p < length slots) where
    -- one more comes into a free slot
    pub all_comes : (new : X) → slot_at slots p ≡ None → IsPermutation (seats ++ new ∷ []) (gone ++ standing_in (set slots p (Some new)))
    all_comes new free =
        IsPermutation-trans _ _ _ (IsPermutation-to_front seats new)
        (IsPermutation-trans _ _ _ (IsPermutation-cons new _ _ all) (IsPermutation-sym _ _ (between_both gone _ (standing_in slots) new (slot_comes slots p new lt free))))

    -- the connection in a slot goes
    pub all_goes : (old : X) → slot_at slots p ≡ Some old → IsPermutation seats ((gone ++ old ∷ []) ++ standing_in (set slots p None))
    all_goes old at =
        subst (IsPermutation seats) (sym (append_assoc gone (old ∷ []) (standing_in (set slots p None)))) (IsPermutation-trans _ _ _ all (IsPermutation-append_right gone _ _ (slot_goes slots p old lt at)))

    -- another takes its place
    pub all_set : (n : ℕ) (old new : X) → n < length seats → old ≡ get_or seats n old → slot_at slots p ≡ Some old → IsPermutation (set seats n new) (gone ++ standing_in (set slots p (Some new)))
    all_set n old new fits is at =
        let rest = remove seats n in
        let free = standing_in (set slots p None) in
        let same : IsPermutation (old ∷ rest) (old ∷ gone ++ free) =
        IsPermutation-trans _ _ _ (IsPermutation-sym _ _ (IsPermutation-remove seats n old fits is)) (IsPermutation-trans _ _ _ all (between_both gone (standing_in slots) free old (slot_goes slots p old lt at))) in
        IsPermutation-trans _ _ _ (set_parts seats n new fits)
        (IsPermutation-trans _ _ _ (another_first old rest (gone ++ free) same new) (IsPermutation-sym _ _ (between_both gone _ free new (slot_parts slots p new lt))))
