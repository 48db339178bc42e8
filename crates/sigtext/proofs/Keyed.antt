-- Lists that ascend by a text of each element, in which no text occurs twice: they ascend strictly.
use Rattle.std.proofs.Common.{◌≡◌, ℕ, zero, suc, ◌+◌, ◌<◌, ◌≤◌, Bool, true, false, cond, List, [], ◌∷◌, length, get_or, refl, sym, ap, subst, ◌∙◌, ⊎_elim, arith, All, map}
use Rattle.std.specs.Prelude.{IsTrue, filter}
use Rattle.std.specs.List.Sorted.{IsSortedBy}
use Rattle.std.specs.Ordering.{is_eq, is_lt, ordering_reverse}
use Rattle.std.specs.declared.cmp.Ordering.{Ordering}
use Rattle.std.specs.declared.cmp.Ordering.TheVariants.{Less, Equal, Greater}
use Rattle.std.proofs.lemmas.Bool.{and_from, cond-true, cases_Bool}
use Rattle.std.proofs.lemmas.Cmp.{nat_list_cmp_total}
use Rattle.std.proofs.lemmas.List.Elements.{All-head, All-tail}
use Rattle.std.proofs.lemmas.Map.Text.{is_eq-slice_cmp}
use Rattle.std.proofs.lemmas.Slice.Eq.{bytes_eq-Decides}
use Rattle.sigtext.specs.Bytes.{same_bytes, bytes_cmp}
use Rattle.sigtext.specs.CanonicalQuery.{ascends}

-- ---- two texts, neither less than the other

tied : (o : Ordering) → is_lt o ≡ false → is_lt (ordering_reverse o) ≡ false → o ≡ Equal
tied Less h k = absurd cc
tied Equal h k = refl
tied Greater h k = absurd cc

pub equal_texts : (a b : List ℕ) → is_lt (bytes_cmp a b) ≡ false → is_lt (bytes_cmp b a) ≡ false → bytes_cmp a b ≡ Equal
equal_texts a b h k = tied (bytes_cmp a b) h (ap is_lt (sym (nat_list_cmp_total.antisymm b a)) ∙ k)

same_texts : (a b : List ℕ) → is_lt (bytes_cmp a b) ≡ false → is_lt (bytes_cmp b a) ≡ false → a ≡ b
same_texts a b h k = (bytes_eq-Decides a b).0 (sym (is_eq-slice_cmp a b) ∙ ap is_eq (equal_texts a b h k))

-- ---- each text once

-- how many elements have this text
abbrev pub times : {X : Type 0} → (X → List ℕ) → List ℕ → List X → ℕ
times key text xs = length (filter (λ x. same_bytes (key x) text) xs)

-- no two elements have the same text
abbrev pub EachOnce : {X : Type 0} → (X → List ℕ) → List X → Type 0
EachOnce key xs = All (λ x. times key (key x) xs ≤ 1) xs

grown : {X : Type 0} (t : Bool) (x : X) (xs : List X) → length xs ≤ length (cond t (x ∷ xs) xs)
grown true x xs = omega arith
grown false x xs = omega arith

once_later : {X : Type 0} (key : X → List ℕ) (x : X) (xs : List X) → EachOnce key (x ∷ xs) → EachOnce key xs
once_later {X} key x xs once k d within =
    let text = key (get_or xs k d) in
    let all = All-tail (λ (y : X). times key (key y) (x ∷ xs) ≤ 1) x xs once k d within in
    let more = grown (same_bytes (key x) text) x (filter (λ y. same_bytes (key y) text) xs) in
    omega (arith, all, more)

twice : {X : Type 0} (key : X → List ℕ) (x y : X) (xs : List X) → key x ≡ key y → 1 < times key (key x) (x ∷ y ∷ xs)
twice {X} key x y xs same =
    let first = (bytes_eq-Decides (key x) (key x)).1 refl in
    let second = (bytes_eq-Decides (key y) (key x)).1 (sym same) in
    let rest = filter (λ z. same_bytes (key z) (key x)) xs in
    let both = cond-true _ (x ∷ filter (λ z. same_bytes (key z) (key x)) (y ∷ xs)) (filter (λ z. same_bytes (key z) (key x)) (y ∷ xs)) first
    ∙ ap (λ (zs : List X). x ∷ zs) (cond-true _ (y ∷ rest) rest second) in
    omega (arith, ap (λ (zs : List X). length zs) both)

-- ---- none less than its predecessor, and each text once

-- none is less than its predecessor
abbrev NeverFalls : {X : Type 0} → (X → List ℕ) → List X → Type 0
NeverFalls {X} key xs = (k : ℕ) (d : X) → suc k < length xs → is_lt (bytes_cmp (key (get_or xs (suc k) d)) (key (get_or xs k d))) ≡ false

rises : {X : Type 0} (key : X → List ℕ) (xs : List X) → NeverFalls key xs → EachOnce key xs → IsTrue (ascends (map key xs))
rises key [] up once = refl
rises key (x ∷ []) up once = refl
rises {X} key (x ∷ y ∷ xs) up once =
    let others = rises key (y ∷ xs) (λ k d within. up (suc k) d (omega (arith, within))) (once_later key x (y ∷ xs) once) in
    ⊎_elim
    (λ less. and_from _ _ less others)
    (λ more.
    let same = same_texts (key x) (key y) more (up zero x (omega arith)) in
    let two = twice key x y xs same in
    let one = All-head (λ (z : X). times key (key z) (x ∷ y ∷ xs) ≤ 1) x (y ∷ xs) once in
    absurd (omega (arith, two, one)))
    (cases_Bool (is_lt (bytes_cmp (key x) (key y))))

pub sorted_ascends : {X : Type 0} (key : X → List ℕ) (xs : List X) → IsSortedBy (λ a b. is_lt (bytes_cmp (key a) (key b))) xs → EachOnce key xs → IsTrue (ascends (map key xs))
sorted_ascends {X} key xs up once = rises key xs never once
  where
    never : NeverFalls key xs
    never k d within =
        let next : k + 1 ≡ suc k = omega arith in
        subst (λ (n : ℕ). is_lt (bytes_cmp (key (get_or xs n d)) (key (get_or xs k d))) ≡ false) next (up k d (omega arith) (omega arith))
