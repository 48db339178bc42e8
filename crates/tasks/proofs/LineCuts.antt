-- Cutting a text at its first LF or CR; a text is one line in at most one way.
use Rattle.std.proofs.Common.{◌≡◌, ◌≢◌, inl, inr, ◌∙◌, ◌+◌, ◌≤◌, ℕ, arith, refl, sym, ap, subst, List, [], ◌∷◌, ◌++◌, length, min, take, Option, Some, None, IfSome, Bor}
use Rattle.std.specs.Prelude.{option_map}
use Rattle.std.specs.Io.Take.{take_inner, take_limit, take_remaining}
use Rattle.std.specs.declared.io.traits.Take.{Take}
use Rattle.std.proofs.lemmas.List.{append_cancel_left, length-append, length-take, take_all}
use Rattle.std.proofs.lemmas.List.Elements.{All-head, All-tail}
use Rattle.tasks.proofs.TaskValues.{found_is}
use Rattle.tasks.specs.Lines.{IsEnd, IsLineOf, IsRest, IsShortLineOf, IsWithoutEnd}

abbrev IsPlain : ℕ → Type 0
IsPlain b = (b ≢ 10) × (b ≢ 13)

pub end_is_rest : (end : List ℕ) → IsEnd end → IsRest end
end_is_rest end (inl none) = inl none
end_is_rest end (inr (inl one)) = inr (10, [], one, inl refl)
end_is_rest end (inr (inr two)) = inr (13, 10 ∷ [], two, inr refl)

no_rest : (b : ℕ) (bs : List ℕ) → (b ≢ 10) × (b ≢ 13) → IsRest (b ∷ bs) → ⊥
no_rest b bs plain (inl none) = let bad : ⊥ = cc in absurd bad
no_rest b bs (not_lf, not_cr) (inr (byte, rest, is, inl lf)) = not_lf cc
no_rest b bs (not_lf, not_cr) (inr (byte, rest, is, inr cr)) = not_cr cc

-- two such cuts of a text are equal
pub one_cut : (front back line end : List ℕ) → front ++ back ≡ line ++ end → IsWithoutEnd front → IsRest back → IsWithoutEnd line → IsRest end → front ≡ line
one_cut [] back [] end same plain rest plain_too end_too = refl
one_cut [] back (b ∷ bs) end same plain rest plain_too end_too = absurd (no_rest b (bs ++ end) (All-head IsPlain b bs plain_too) (subst IsRest same rest))
one_cut (b ∷ bs) back [] end same plain rest plain_too end_too = absurd (no_rest b (bs ++ back) (All-head IsPlain b bs plain) (subst IsRest (sym same) end_too))
one_cut (b ∷ bs) back (d ∷ ds) end same plain rest plain_too end_too =
    let first : b ≡ d = cc in
    let below : bs ++ back ≡ ds ++ end = cc in
    let others = one_cut bs back ds end below (All-tail IsPlain b bs plain) rest (All-tail IsPlain d ds plain_too) end_too in
    cc

-- the only line that a text cut like this can be
pub only_line : (text front back line : List ℕ) → text ≡ front ++ back → IsWithoutEnd front → IsRest back → IsLineOf text line → (front ≡ line) × IsEnd back
only_line text front back line whole plain rest (end, also, plain_too, ends) =
    let both : front ++ back ≡ line ++ end = sym whole ∙ also in
    let same = one_cut front back line end both plain rest plain_too (end_is_rest end ends) in
    let behind : front ++ back ≡ front ++ end = both ∙ ap (λ (l : List ℕ). l ++ end) (sym same) in
    (same, subst IsEnd (sym (append_cancel_left front back end behind)) ends)

-- ---- the beginning of a text

short_text : (text line : List ℕ) (most : ℕ) → IsLineOf text line → length line ≤ most → length text ≤ most + 2
short_text text line most (end, is, plain, ends) short =
    let whole : length text ≡ length line + length end = ap length is ∙ length-append line end in
    let few : length end ≤ 2 = elim ends [
      | inl none ↦ rw none (omega arith)
      | inr (inl one) ↦ rw one (omega arith)
      | inr (inr two) ↦ rw two (omega arith)
    ] in
    omega (arith, whole, few, short)

-- a short line of a longer prefix is the line of the whole text
pub whole_line : (text start line : List ℕ) (most : ℕ) → start ≡ take (most + 3) text → IsLineOf start line → length line ≤ most → IsLineOf text line
whole_line text start line most is here short =
    let few : length start ≤ most + 2 = short_text start line most here short in
    let cut : length start ≡ min (most + 3) (length text) = ap length is ∙ length-take (most + 3) text in
    let all : length text ≤ most + 3 = omega (arith, few, cut) in
    subst (λ t. IsLineOf t line) (is ∙ take_all (most + 3) text all) here

-- a short line of the text is the line of that prefix
pub start_line : (text start line : List ℕ) (most : ℕ) → start ≡ take (most + 3) text → IsLineOf text line → length line ≤ most → IsLineOf start line
start_line text start line most is here short =
    let few : length text ≤ most + 2 = short_text text line most here short in
    subst (λ t. IsLineOf t line) (sym (is ∙ take_all (most + 3) text (omega (arith, few)))) here

-- if that prefix is not a line, the text is not a short line
pub no_short_line : (most : ℕ) (text start : List ℕ) (found : Option (Bor (List ℕ))) → found ≡ None → start ≡ take (most + 3) text
    → ((line : List ℕ) → IsLineOf start line → ⊥) → IsShortLineOf most text (option_map (λ line. line.now) found)
no_short_line most text start None none is no_line = λ line whole short. no_line line (start_line text start line most is whole short)
no_short_line most text start (Some found) none is no_line = let bad : ⊥ = cc in absurd bad

-- ---- what a reader returns

pub known : {X : Type 0} (o : Option X) (P : X → Type 0) → ((x : X) → o ≡ Some x → P x) → IfSome o P
known None P holds = tt
known (Some x) P holds = holds x refl

-- the bytes that were read through a `Take` are a prefix of the reader's bytes
pub beginning : {R : Type 0} (remaining : R → Option (List ℕ)) (t : Take R) (reader : R) (limit : ℕ) (old new text : List ℕ) → take_limit t ≡ limit → take_inner t ≡ reader
    → old ≡ [] → IfSome (take_remaining remaining t) (λ xs. new ≡ old ++ xs) → remaining reader ≡ Some text → new ≡ take limit text
beginning remaining t reader limit old new text most inner none bytes given =
    let here : take_remaining remaining t ≡ Some (take (take_limit t) text) = ap (option_map (take (take_limit t))) (ap remaining inner ∙ given) in
    let all : new ≡ old ++ take (take_limit t) text = found_is (take_remaining remaining t) (take (take_limit t) text) (λ xs. new ≡ old ++ xs) bytes here in
    all ∙ ap (λ (o : List ℕ). o ++ take (take_limit t) text) none ∙ ap (λ n. take n text) most
