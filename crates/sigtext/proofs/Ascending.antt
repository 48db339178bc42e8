-- Lists that ascend strictly by a text of each element: two of them with the same elements are equal.
use Rattle.std.proofs.Common.{◌≡◌, ℕ, zero, suc, List, [], ◌∷◌, get_or, refl, sym, ◌∙◌, subst, inl, inr, ⊎_elim, arith, All}
use Rattle.std.specs.Prelude.{◌⊎◌, Contains, IsPermutation, IsTrue, map}
use Rattle.std.specs.Ordering.{is_lt}
use Rattle.std.specs.declared.cmp.Ordering.{Ordering}
use Rattle.std.specs.declared.cmp.Ordering.TheVariants.{Less, Equal, Greater}
use Rattle.std.proofs.lemmas.Bool.{and_parts}
use Rattle.std.proofs.lemmas.Cmp.{nat_list_cmp_total, tied_itself}
use Rattle.std.proofs.lemmas.List.Elements.{All-contains, All-contains_itself, All-head, All-tail, All-nil, All-cons, All-weaker}
use Rattle.std.proofs.lemmas.List.Sorted.{All-permutation, Contains-permutation}
use Rattle.sigtext.specs.Bytes.{bytes_cmp}
use Rattle.sigtext.specs.CanonicalQuery.{ascends}

-- ---- the order of texts

less : (o : Ordering) → IsTrue (is_lt o) → o ≡ Less
less Less h = refl
less Equal h = absurd cc
less Greater h = absurd cc

trans : (x y z : List ℕ) → bytes_cmp x y ≡ Less → bytes_cmp y z ≡ Less → bytes_cmp x z ≡ Less
trans x y z = nat_list_cmp_total.trans x y z

pub never_below_itself : (x : List ℕ) → bytes_cmp x x ≡ Less → ⊥
never_below_itself x h = let e = sym h ∙ tied_itself nat_list_cmp_total x in cc

-- ---- elements greater than a text

-- the text is less than that of each element
abbrev pub BelowAll : {X : Type 0} → (X → List ℕ) → List ℕ → List X → Type 0
BelowAll key a xs = All (λ x. bytes_cmp a (key x) ≡ Less) xs

below_more : {X : Type 0} (key : X → List ℕ) (a b : List ℕ) (xs : List X) → bytes_cmp a b ≡ Less → BelowAll key b xs → BelowAll key a xs
below_more key a b xs h = All-weaker (λ x. bytes_cmp b (key x) ≡ Less) (λ x. bytes_cmp a (key x) ≡ Less) (λ x. trans a b (key x) h) xs

-- each text is less than all that follow
pub ascends-head : {X : Type 0} (key : X → List ℕ) (x : X) (xs : List X) → IsTrue (ascends (map key (x ∷ xs))) → BelowAll key (key x) xs
ascends-head key x [] h = All-nil (λ y. bytes_cmp (key x) (key y) ≡ Less)
ascends-head key x (y ∷ ys) h =
    let parts = and_parts (is_lt (bytes_cmp (key x) (key y))) (ascends (map key (y ∷ ys))) h in
    let first = less (bytes_cmp (key x) (key y)) parts.0 in
    All-cons (λ z. bytes_cmp (key x) (key z) ≡ Less) y ys first (below_more key (key x) (key y) ys first (ascends-head key y ys parts.1))

pub ascends-tail : {X : Type 0} (key : X → List ℕ) (x : X) (xs : List X) → IsTrue (ascends (map key (x ∷ xs))) → IsTrue (ascends (map key xs))
ascends-tail key x [] h = refl
ascends-tail key x (y ∷ ys) h = (and_parts (is_lt (bytes_cmp (key x) (key y))) (ascends (map key (y ∷ ys))) h).1

-- ---- the same elements

-- an element of a list is the first, or among the others
pub first_or_later : {X : Type 0} (x : X) (xs : List X) (q : X) → Contains (x ∷ xs) q → (x ≡ q) ⊎ Contains xs q
first_or_later x xs q (zero, within, is) = inl is
first_or_later x xs q (suc k, within, is) = inr (k, omega arith, is)

-- the first elements are equal; otherwise each would be less than the other
same_head : {X : Type 0} (key : X → List ℕ) (x y : X) (xs ys : List X) → BelowAll key (key x) xs → BelowAll key (key y) ys
    → Contains (y ∷ ys) x → Contains (x ∷ xs) y → x ≡ y
same_head key x y xs ys above_x above_y x_there y_there =
    ⊎_elim
    (λ here. sym here)
    (λ x_later. ⊎_elim
    (λ here. here)
    (λ y_later.
    let y_x = All-contains (λ z. bytes_cmp (key y) (key z) ≡ Less) ys x above_y x_later in
    let x_y = All-contains (λ z. bytes_cmp (key x) (key z) ≡ Less) xs y above_x y_later in
    absurd (never_below_itself (key x) (trans (key x) (key y) (key x) x_y y_x)))
    (first_or_later x xs y y_there))
    (first_or_later y ys x x_there)

-- an element greater than the first is among the others
later : {X : Type 0} (key : X → List ℕ) (x : X) (xs : List X) (q : X) → bytes_cmp (key x) (key q) ≡ Less → Contains (x ∷ xs) q → Contains xs q
later key x xs q above there =
    ⊎_elim
    (λ here. absurd (never_below_itself (key x) (subst (λ z. bytes_cmp (key x) (key z) ≡ Less) (sym here) above)))
    (λ found. found)
    (first_or_later x xs q there)

all_later : {X : Type 0} (key : X → List ℕ) (x : X) (xs ys : List X) → BelowAll key (key x) ys → All (Contains (x ∷ xs)) ys → All (Contains xs) ys
all_later key x xs ys above there k d within = later key x xs (get_or ys k d) (above k d within) (there k d within)

pub ascending_once : {X : Type 0} (key : X → List ℕ) (xs ys : List X) → IsTrue (ascends (map key xs)) → IsTrue (ascends (map key ys))
    → All (Contains ys) xs → All (Contains xs) ys → ys ≡ xs
ascending_once key [] [] up_x up_y there back = refl
ascending_once key [] (y ∷ ys) up_x up_y there back = let c = All-head (Contains []) y ys back in absurd (omega (arith, c.1))
ascending_once key (x ∷ xs) [] up_x up_y there back = let c = All-head (Contains []) x xs there in absurd (omega (arith, c.1))
ascending_once key (x ∷ xs) (y ∷ ys) up_x up_y there back =
    let above_x = ascends-head key x xs up_x in
    let above_y = ascends-head key y ys up_y in
    let head = same_head key x y xs ys above_x above_y (All-head (Contains (y ∷ ys)) x xs there) (All-head (Contains (x ∷ xs)) y ys back) in
    let there_later = all_later key y ys xs (subst (λ z. BelowAll key (key z) xs) head above_x) (All-tail (Contains (y ∷ ys)) x xs there) in
    let back_later = all_later key x xs ys (subst (λ z. BelowAll key (key z) ys) (sym head) above_y) (All-tail (Contains (x ∷ xs)) y ys back) in
    cc (head, ascending_once key xs ys (ascends-tail key x xs up_x) (ascends-tail key y ys up_y) there_later back_later)

-- two such rearrangements of one list are equal
pub rearranged_once : {X : Type 0} (key : X → List ℕ) (base xs ys : List X) → IsPermutation base xs → IsPermutation base ys
    → IsTrue (ascends (map key xs)) → IsTrue (ascends (map key ys)) → ys ≡ xs
rearranged_once key base xs ys to_x to_y up_x up_y = ascending_once key xs ys up_x up_y (moved base xs ys to_x to_y) (moved base ys xs to_y to_x)
  where
    moved : {X : Type 0} (base xs ys : List X) → IsPermutation base xs → IsPermutation base ys → All (Contains ys) xs
    moved base xs ys to_x to_y =
        All-permutation (Contains ys) base xs to_x (λ k d within. Contains-permutation base ys (get_or base k d) to_y (All-contains_itself base k d within))
