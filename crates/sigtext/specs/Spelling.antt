-- Spellings of bytes in a request target: a byte stands for itself, or is `%` and two hexadecimal digits in either case
-- (RFC 3986, section 2.1).
use Rattle.std.specs.Prelude.{◌≡◌, ℕ, ◌+◌, ◌*◌, Bool, ◌&&◌, ◌||◌, not, ◌==◌, nat_le, IsTrue, List, [], ◌∷◌, ◌++◌}
use Rattle.std.specs.List.{list_any}
use Rattle.std.specs.Char.{digit_value, is_digit}

-- a byte that may stand for itself: 0x21 to 0x7E, not `+`, `#` or `%`, and not among the barred ones
abbrev pub may_stand : List ℕ → ℕ → Bool
may_stand barred b =
    nat_le 0x21 b && nat_le b 0x7E && not (b == 43 || b == 35 || b == 37) && not (list_any (λ x. b == x) barred)

-- the piece of text is a spelling of the byte
pub data SpellsByte (barred : List ℕ) : List ℕ → ℕ → Type 0 where
  raw : (b : ℕ) → IsTrue (may_stand barred b) → SpellsByte barred (b ∷ []) b
  escaped : (high low : ℕ) → IsTrue (is_digit high 16) → IsTrue (is_digit low 16)
      → SpellsByte barred (37 ∷ high ∷ low ∷ []) (16 * digit_value high + digit_value low)

-- the spellings of the bytes, in order, are the text
abbrev pub Spells : List ℕ → List ℕ → List ℕ → Type 0
Spells barred text [] = text ≡ []
Spells barred text (b ∷ bytes) =
    (piece rest : List ℕ) × (text ≡ piece ++ rest) × SpellsByte barred piece b × Spells barred rest bytes
