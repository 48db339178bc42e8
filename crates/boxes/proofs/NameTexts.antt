-- What the tests of a text's beginning and end say about it.
use Rattle.std.proofs.Common.{◌≡◌, ◌∙◌, ℕ, zero, suc, ◌<◌, ◌-◌, Bool, true, false, List, [], ◌∷◌, ◌++◌, length, map, take, drop, refl, sym, ap, arith, eqb}
use Rattle.std.specs.Prelude.{◌||◌, ◌↔◌, Contains, IsTrue, Result, Ok, Err, MatchResult}
use Rattle.std.specs.List.{list_any, starts_with, ends_with, slice_index_or}
use Rattle.std.specs.Result.{is_err, is_ok}
use Rattle.std.proofs.lemmas.Bool.Decides.{Decides-eqb}
use Rattle.std.proofs.lemmas.Slice.Eq.{starts_is, ends_is}

pub begins : (r : Bool) (name text : List ℕ) → r ≡ starts_with eqb name text → IsTrue r ↔ ((rest : List ℕ) × (name ≡ text ++ rest))
begins r name text e =
    let is = starts_is Decides-eqb name text r e in
    (λ t. (drop (length text) name, is.0 t), λ h. is.1 h.0 h.1)

-- the name ends with the text
abbrev pub ends : List ℕ → List ℕ → Bool
ends name text = ends_with eqb name text

abbrev EndsWithOne : List ℕ → List (List ℕ) → Type 0
EndsWithOne name texts = (text front : List ℕ) × Contains texts text × (name ≡ front ++ text)

later : (name text : List ℕ) (texts : List (List ℕ)) → EndsWithOne name texts → EndsWithOne name (text ∷ texts)
later name text texts (t, front, (k, low, at), e) = (t, front, (suc k, omega arith, at), e)

first_ends : (name text : List ℕ) → ends name text ≡ true → (front : List ℕ) × (name ≡ front ++ text)
first_ends name text e = (take (length name - length text) name, (ends_is Decides-eqb name text (ends name text) refl).0 e)

ends_true : (name front text : List ℕ) → name ≡ front ++ text → ends name text ≡ true
ends_true name front text e = (ends_is Decides-eqb name text (ends name text) refl).1 front e

either : (a b : Bool) → b ≡ true → (a || b) ≡ true
either true b e = refl
either false b e = e

head : (a b : Bool) → a ≡ true → (a || b) ≡ true
head true b e = refl
head false b e = absurd cc

found : (name : List ℕ) (texts : List (List ℕ)) → list_any (ends name) texts ≡ true → EndsWithOne name texts
found name [] e = absurd cc
found name (text ∷ texts) e =
    elim (ends name text) as (λ b. ends name text ≡ b → (b || list_any (ends name) texts) ≡ true → EndsWithOne name (text ∷ texts)) [
      | true ↦ λ t any. let it = first_ends name text t in (text, it.0, (0, omega arith, refl), it.1)
      | false ↦ λ t any. later name text texts (found name texts any)
    ] refl e

here : (name : List ℕ) (texts : List (List ℕ)) (text front : List ℕ) (k : ℕ) → k < length texts → slice_index_or texts k text ≡ text → name ≡ front ++ text → list_any (ends name) texts ≡ true
here name [] text front k low at e = absurd (omega arith)
here name (t ∷ texts) text front zero low at e = head (ends name t) (list_any (ends name) texts) (ends_true name front t (e ∙ ap (λ (x : List ℕ). front ++ x) (sym at)))
here name (t ∷ texts) text front (suc k) low at e = either (ends name t) (list_any (ends name) texts) (here name texts text front k (omega arith) at e)

any_mapped : {X : Type 0} (f : X → List ℕ) (p : List ℕ → Bool) (xs : List X) → list_any (λ x. p (f x)) xs ≡ list_any p (map f xs)
any_mapped f p [] = refl
any_mapped f p (x ∷ xs) = ap (λ (b : Bool). p (f x) || b) (any_mapped f p xs)

-- the name ends with the text of some element
pub ends_with_one : {X : Type 0} (f : X → List ℕ) (r : Bool) (name : List ℕ) (xs : List X) → r ≡ list_any (λ x. ends name (f x)) xs → IsTrue r ↔ EndsWithOne name (map f xs)
ends_with_one f r name xs e =
    let is = e ∙ any_mapped f (ends name) xs in
    (λ t. found name (map f xs) (sym is ∙ t), λ (text, front, (k, low, at), same). is ∙ here name (map f xs) text front k low at same)

-- what a result says if it is not an error
pub of_ok : {A E : Type 0} (P : Type 0) (Q : A → Type 0) (N : E → Type 0) (r : Result A E) → MatchResult r (λ x. Q x × P) N → is_err r ≡ false → P
of_ok P Q N (Ok x) h e = h.1
of_ok P Q N (Err x) h e = absurd cc

-- a result is not an error exactly if P holds
pub tells_ok : {A E : Type 0} (P : Type 0) (Q : A → Type 0) (N : E → Type 0) (r : Result A E) → MatchResult r (λ x. Q x × P) N → ((x : E) → N x → P → ⊥) → IsTrue (is_ok r) ↔ P
tells_ok P Q N (Ok x) h fails = (λ t. h.1, λ p. refl)
tells_ok P Q N (Err x) h fails = (λ t. absurd cc, λ p. absurd (fails x h p))
