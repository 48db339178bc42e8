-- Texts joined by a byte: nothing stands before the first, and the byte before each other one.
use Rattle.std.proofs.Common.{◌≡◌, ℕ, ◌<◌, List, [], ◌∷◌, ◌++◌, length, refl, sym, ap, ◌∙◌, append_assoc, arith}
use Rattle.std.proofs.lemmas.List.{append-nil}
use Rattle.std.specs.List.{join_with_byte}

-- the texts in order, with this prefix before the first and the byte before each other one
unfoldable pub joined_behind : List ℕ → ℕ → List (List ℕ) → List ℕ
joined_behind front byte [] = []
joined_behind front byte (text ∷ texts) = front ++ (text ++ joined_behind (byte ∷ []) byte texts)

pub joined_behind-nil : (front : List ℕ) (byte : ℕ) → joined_behind front byte [] ≡ []
unfolding joined_behind
joined_behind-nil front byte = refl

pub joined_behind-cons : (front : List ℕ) (byte : ℕ) (text : List ℕ) (texts : List (List ℕ)) → joined_behind front byte (text ∷ texts) ≡ front ++ (text ++ joined_behind (byte ∷ []) byte texts)
unfolding joined_behind
joined_behind-cons front byte text texts = refl

pub joined_behind-nothing : (byte : ℕ) (texts : List (List ℕ)) → join_with_byte byte texts ≡ joined_behind [] byte texts
unfolding joined_behind
joined_behind-nothing byte [] = refl
joined_behind-nothing byte (text ∷ []) = sym (append-nil text)
joined_behind-nothing byte (text ∷ next ∷ texts) = ap (λ (t : List ℕ). text ++ byte ∷ t) (joined_behind-nothing byte (next ∷ texts))

-- one more text at the end
pub joined_more : (byte : ℕ) (texts : List (List ℕ)) (last : List ℕ) → 0 < length texts → join_with_byte byte (texts ++ last ∷ []) ≡ join_with_byte byte texts ++ byte ∷ last
joined_more byte [] last some = absurd (omega arith)
joined_more byte (text ∷ []) last some = refl
joined_more byte (text ∷ next ∷ texts) last some =
    ap (λ (t : List ℕ). text ++ byte ∷ t) (joined_more byte (next ∷ texts) last (omega arith))
    ∙ sym (append_assoc text (byte ∷ join_with_byte byte (next ∷ texts)) (byte ∷ last))

-- a byte before the first text, if there is one
pub joined_behind-some : (first byte : ℕ) (texts : List (List ℕ)) → 0 < length texts → joined_behind (first ∷ []) byte texts ≡ first ∷ join_with_byte byte texts
unfolding joined_behind
joined_behind-some first byte [] some = absurd (omega arith)
joined_behind-some first byte (text ∷ texts) some = ap (λ (t : List ℕ). first ∷ t) (sym (joined_behind-nothing byte (text ∷ texts)))

-- two more pieces of a text are written after those before
pub pieces_written : (whole before between after front piece rest : List ℕ) → whole ≡ before ++ (front ++ (piece ++ rest)) → between ≡ before ++ front → after ≡ between ++ piece → whole ≡ after ++ rest
pieces_written whole before between after front piece rest is first second =
    is ∙ sym (append_assoc before front (piece ++ rest)) ∙ ap (λ (t : List ℕ). t ++ (piece ++ rest)) (sym first)
    ∙ sym (append_assoc between piece rest) ∙ ap (λ (t : List ℕ). t ++ rest) (sym second)
