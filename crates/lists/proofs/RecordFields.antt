-- Lists of texts, place by place.
use Rattle.std.proofs.Common.{◌≡◌, ◌<◌, ◌+◌, ℕ, zero, suc, Some, get_or, slice_set, Bor, List, [], ◌∷◌, length, map, ◌≤◌, refl, sym, ap, ◌∙◌, subst, arith, ⊎_elim}
use Rattle.std.proofs.Math.ListN.{get_or-map}
use Rattle.std.proofs.lemmas.Bool.{cases_lt}
use Rattle.std.proofs.lemmas.Option.{same_Some}
use Rattle.std.specs.Prelude.{◌↔◌, IsUtf8}
use Rattle.std.specs.List.{AllByRecursion}
use Rattle.csv.specs.Records.{field_at, AllText}

-- lists of the same length are equal if they agree at each place
pub same_places : (xs ys : List (List ℕ)) → length xs ≡ length ys → ((k : ℕ) → k < length ys → field_at xs k ≡ field_at ys k) → xs ≡ ys
unfolding field_at
same_places [] [] long each = refl
same_places [] (y ∷ ys) long each = absurd (omega (arith, long))
same_places (x ∷ xs) [] long each = absurd (omega (arith, long))
same_places (x ∷ xs) (y ∷ ys) long each =
    let first : x ≡ y = same_Some x y (each 0 (omega arith)) in
    let rest : xs ≡ ys = same_places xs ys (omega (arith, long)) (λ k less. each (suc k) (omega (arith, less))) in
    λ i. first i ∷ rest i

-- if the whole list is known, each of its texts is known
pub text_at : (texts : List (Bor (List ℕ))) (fields : List (List ℕ)) (d : Bor (List ℕ)) (i : ℕ) → map (λ t. t.now) texts ≡ fields → get_or fields i d.now ≡ (get_or texts i d).now
text_at texts fields d i are = sym (ap (λ fs. get_or fs i d.now) are) ∙ get_or-map (λ t. t.now) texts i d

-- the text at a place of the list
pub at_place : {A : Type 0} (f : A → List ℕ) (xs : List A) (i : ℕ) (d : A) → i < length xs → field_at (map f xs) i ≡ Some (f (get_or xs i d))
unfolding field_at
at_place f [] i d less = absurd (omega (arith, less))
at_place f (x ∷ xs) zero d less = refl
at_place f (x ∷ xs) (suc i) d less = at_place f xs i d (omega (arith, less))

-- the text that was set
pub at_set : {A : Type 0} (f : A → List ℕ) (xs : List A) (i : ℕ) (x : A) → i < length xs → field_at (map f (slice_set xs i x)) i ≡ Some (f x)
unfolding field_at
at_set f [] i x less = absurd (omega (arith, less))
at_set f (y ∷ xs) zero x less = refl
at_set f (y ∷ xs) (suc i) x less = at_set f xs i x (omega (arith, less))

-- the places before it stay
pub before_set : {A : Type 0} (f : A → List ℕ) (xs : List A) (i k : ℕ) (x : A) → k < i → field_at (map f (slice_set xs i x)) k ≡ field_at (map f xs) k
unfolding field_at
before_set f [] i k x less = refl
before_set f (y ∷ xs) zero k x less = absurd (omega (arith, less))
before_set f (y ∷ xs) (suc i) zero x less = refl
before_set f (y ∷ xs) (suc i) (suc k) x less = before_set f xs i k x (omega (arith, less))

-- agreeing at one more place
pub one_more : (xs ys : List (List ℕ)) (i : ℕ) → ((k : ℕ) → k < i → field_at xs k ≡ field_at ys k) → field_at xs i ≡ field_at ys i
    → (k : ℕ) → k < i + 1 → field_at xs k ≡ field_at ys k
one_more xs ys i before here k less =
    ⊎_elim (λ (l : k < i). before k l) (λ (l : i ≤ k). last (omega (arith, less, l))) (cases_lt k i)
  where
    last : i ≡ k → field_at xs k ≡ field_at ys k
    last e = subst (λ n. field_at xs n ≡ field_at ys n) e here

-- each text is UTF-8
pub each_text : {A : Type 0} (f : A → List ℕ) (xs : List A) → AllByRecursion (λ x. IsUtf8 (f x)) xs ↔ AllText (map f xs)
unfolding AllText
each_text f [] = (λ h. tt, λ h. tt)
each_text f (x ∷ xs) = let rest = each_text f xs in (λ h. (h.0, rest.0 h.1), λ h. (h.0, rest.1 h.1))
