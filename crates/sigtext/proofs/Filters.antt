-- What a filter keeps, and what it keeps of a rearrangement.
use Rattle.std.proofs.Common.{◌≡◌, zero, suc, Bool, true, false, cond, List, [], ◌∷◌, length, get_or, refl, sym, ap, subst, ◌∙◌, ⊎_elim, arith, All}
use Rattle.std.specs.Prelude.{IsPermutation, Contains, filter}
use Rattle.std.proofs.lemmas.Bool.{cond-true, cond-false, cases_Bool, false_from_ne_true, false≢true}
use Rattle.std.proofs.lemmas.List.Elements.{All-head, All-tail, All-contains_itself, All-filter, filter_passes}
use Rattle.std.proofs.lemmas.List.Sorted.{Contains-permutation, sum_by-IsPermutation}
use Rattle.std.proofs.lemmas.List.Sums.{length-filter}
use Rattle.sigtext.proofs.Ascending.{first_or_later}

pub later : {X : Type 0} (x : X) (xs : List X) (q : X) → Contains xs q → Contains (x ∷ xs) q
later x xs q (k, within, is) = (suc k, omega arith, is)

-- a permutation keeps how many pass a test
pub counted : {X : Type 0} (t : X → Bool) (xs ys : List X) → IsPermutation xs ys → length (filter t ys) ≡ length (filter t xs)
counted t xs ys moved = length-filter t ys ∙ sum_by-IsPermutation (λ x. cond (t x) 1 0) xs ys moved ∙ sym (length-filter t xs)

pub none_pass : {X : Type 0} (t : X → Bool) (xs : List X) → All (λ x. t x ≡ false) xs → filter t xs ≡ []
none_pass t [] h = refl
none_pass t (x ∷ xs) h = cond-false _ _ _ (All-head (λ y. t y ≡ false) x xs h) ∙ none_pass t xs (All-tail (λ y. t y ≡ false) x xs h)

pub each_passes : {X : Type 0} (t : X → Bool) (xs : List X) → All (λ x. t x ≡ true) xs → filter t xs ≡ xs
each_passes t [] h = refl
each_passes {X} t (x ∷ xs) h = cond-true _ _ _ (All-head (λ y. t y ≡ true) x xs h) ∙ ap (λ (ys : List X). x ∷ ys) (each_passes t xs (All-tail (λ y. t y ≡ true) x xs h))

-- an element that passes is kept
pub kept : {X : Type 0} (t : X → Bool) (xs : List X) (q : X) → t q ≡ true → Contains xs q → Contains (filter t xs) q
kept t [] q passes c = absurd (omega (arith, c.1))
kept t (x ∷ xs) q passes c =
    ⊎_elim
    (λ here. subst (λ ys. Contains ys q) (sym (cond-true _ _ _ (ap t here ∙ passes))) (zero, omega arith, here))
    (λ more. ⊎_elim
    (λ yes. subst (λ ys. Contains ys q) (sym (cond-true _ _ _ yes)) (later x (filter t xs) q (kept t xs q passes more)))
    (λ no. subst (λ ys. Contains ys q) (sym (cond-false _ _ _ no)) (kept t xs q passes more))
    (cases_Bool (t x)))
    (first_or_later x xs q c)

pub alone : {X : Type 0} (xs : List X) (p : X) → length xs ≡ 1 → All (λ q. q ≡ p) xs → xs ≡ p ∷ []
alone [] p long h = absurd (omega (arith, long))
alone (q ∷ []) p long h = ap (λ x. x ∷ []) (All-head (λ q. q ≡ p) q [] h)
alone (q ∷ r ∷ xs) p long h = absurd (omega (arith, long))

-- whatever passes the first test passes the second, so both filters keep what the first keeps
pub filter_within : {X : Type 0} (s t : X → Bool) (xs : List X) → ((x : X) → t x ≡ true → s x ≡ true) → filter t (filter s xs) ≡ filter t xs
filter_within s t [] within = refl
filter_within {X} s t (x ∷ xs) within =
    let others = filter_within s t xs within in
    ⊎_elim
    (λ yes. ap (filter t) (cond-true _ _ _ yes) ∙ ap (λ (ys : List X). cond (t x) (x ∷ ys) ys) others)
    (λ no. ap (filter t) (cond-false _ _ _ no) ∙ others ∙ sym (cond-false _ _ _ (false_from_ne_true (t x) (λ e. false≢true (sym no ∙ within x e)))))
    (cases_Bool (s x))

in_one : {X : Type 0} (p q : X) → Contains (p ∷ []) q → q ≡ p
in_one p q c = ⊎_elim (λ here. sym here) (λ more. absurd (omega (arith, more.1))) (first_or_later p [] q c)

-- if exactly one element passes, it is the only one in each permutation
pub moved_one : {X : Type 0} (t : X → Bool) (xs ys : List X) (p : X) → IsPermutation xs ys → filter t ys ≡ p ∷ [] → filter t xs ≡ p ∷ []
moved_one {X} t xs ys p moved one = alone (filter t xs) p (sym (counted t xs ys moved) ∙ ap (λ (zs : List X). length zs) one) (λ k d within. is (get_or (filter t xs) k d) (filter_passes t xs k d within) (All-filter t (Contains xs) xs (All-contains_itself xs) k d within))
  where
    is : (q : X) → t q ≡ true → Contains xs q → q ≡ p
    is q passes there = in_one p q (subst (λ zs. Contains zs q) one (kept t ys q passes (Contains-permutation xs ys q moved there)))

pub moved_none : {X : Type 0} (t : X → Bool) (xs ys : List X) → IsPermutation xs ys → filter t ys ≡ [] → filter t xs ≡ []
moved_none {X} t xs ys moved none = empty (filter t xs) (sym (counted t xs ys moved) ∙ ap (λ (zs : List X). length zs) none)
  where
    empty : (zs : List X) → length zs ≡ 0 → zs ≡ []
    empty [] e = refl
    empty (z ∷ zs) e = absurd (omega (arith, e))
