-- `cut` at the first place of a byte, step by step and as a whole.
use Rattle.std.proofs.Common.{◌≡◌, ◌≢◌, ℕ, ◌<◌, Bool, true, false, eqb, List, [], ◌∷◌, ◌++◌, length, Option, Some, None, refl, sym, ap, ◌∙◌, All, arith}
use Rattle.std.specs.Prelude.{IsTrue, option_map, unwrap_or}
use Rattle.std.proofs.lemmas.Bool.{and_parts, cond-true, cond-false, eq-eqb, ne_eqb, false≢true}
use Rattle.std.specs.List.{list_all, AllByRecursion, slice_split, join_with_byte}
use Rattle.std.proofs.lemmas.List.Splits.{slice_split_none, slice_split_at}
use Rattle.std.proofs.lemmas.List.Elements.{All-nil, All-cons, All-head, All-tail}
use Rattle.sigtext.proofs.Reading.{cut}

-- the front, put before the first part of a cut
abbrev pub with_front : List ℕ → Option (List ℕ × List ℕ) → Option (List ℕ × List ℕ)
with_front front o = option_map (λ p. (front ++ p.0, p.1)) o

pub cut-nil : (c : ℕ) → cut c [] ≡ None
unfolding cut
cut-nil c = refl

pub cut_here : (c x : ℕ) (xs : List ℕ) → eqb x c ≡ true → cut c (x ∷ xs) ≡ Some ([], xs)
unfolding cut
cut_here c x xs e = cond-true _ _ _ e

pub cut_later : (c x : ℕ) (xs : List ℕ) → eqb x c ≡ false → cut c (x ∷ xs) ≡ with_front (x ∷ []) (cut c xs)
unfolding cut
cut_later c x xs e = cond-false _ _ _ e

-- the front does not contain the byte
pub cut_at : (c : ℕ) (xs ys : List ℕ) → All (λ x. eqb x c ≡ false) xs → cut c (xs ++ c ∷ ys) ≡ Some (xs, ys)
cut_at c [] ys h = cut_here c c ys (eq-eqb c c refl)
cut_at c (x ∷ xs) ys h =
    cut_later c x (xs ++ c ∷ ys) (All-head (λ y. eqb y c ≡ false) x xs h) ∙ ap (with_front (x ∷ [])) (cut_at c xs ys (All-tail (λ y. eqb y c ≡ false) x xs h))

pub cut_absent : (c : ℕ) (xs : List ℕ) → All (λ x. eqb x c ≡ false) xs → cut c xs ≡ None
cut_absent c [] h = cut-nil c
cut_absent c (x ∷ xs) h =
    cut_later c x xs (All-head (λ y. eqb y c ≡ false) x xs h) ∙ ap (with_front (x ∷ [])) (cut_absent c xs (All-tail (λ y. eqb y c ≡ false) x xs h))

-- splitting the joined pieces at the byte returns them, since none contains it
pub split_joined : (c : ℕ) (pieces : List (List ℕ)) → 0 < length pieces → AllByRecursion (All (λ x. eqb x c ≡ false)) pieces → slice_split (λ x. eqb x c) (join_with_byte c pieces) ≡ pieces
split_joined c [] h without = absurd (omega arith)
split_joined c (piece ∷ []) h without = slice_split_none (λ x. eqb x c) piece without.0
split_joined c (piece ∷ next ∷ pieces) h without =
    slice_split_at (λ x. eqb x c) piece c (join_with_byte c (next ∷ pieces)) without.0 (eq-eqb c c refl)
    ∙ ap (λ (t : List (List ℕ)). piece ∷ t) (split_joined c (next ∷ pieces) (omega arith) without.1)

-- a text is cut at the first such byte in one way
pub cut_once : (c : ℕ) (xs ys front rest : List ℕ) → All (λ x. eqb x c ≡ false) xs → All (λ x. eqb x c ≡ false) front → xs ++ c ∷ ys ≡ front ++ c ∷ rest → (xs ≡ front) × (ys ≡ rest)
cut_once c xs ys front rest h k e =
    let same : Some (xs, ys) ≡ Some (front, rest) = sym (cut_at c xs ys h) ∙ ap (cut c) e ∙ cut_at c front rest k in
    (ap (λ (o : Option (List ℕ × List ℕ)). (unwrap_or o (xs, ys)).0) same, ap (λ (o : Option (List ℕ × List ℕ)). (unwrap_or o (xs, ys)).1) same)

-- a byte that fails the test is not in a text whose bytes all pass
pub lacks_failing : (test : ℕ → Bool) (c : ℕ) (text : List ℕ) → test c ≡ false → IsTrue (list_all test text) → All (λ b. eqb b c ≡ false) text
lacks_failing test c [] fails h = All-nil (λ b. eqb b c ≡ false)
lacks_failing test c (b ∷ text) fails h =
    let parts = and_parts (test b) (list_all test text) h in
    let other : b ≢ c = λ same. false≢true (sym fails ∙ ap test (sym same) ∙ parts.0) in
    All-cons (λ x. eqb x c ≡ false) b text (ne_eqb b c other) (lacks_failing test c text fails parts.1)
