-- The forms of a link's parameters. Those of the credential and the date are in `sigv4`, that of the signed names in `sigtext`.
use Rattle.std.specs.Prelude.{◌≡◌, ◌≢◌, ℕ, ◌≤◌, Bool, ◌||◌, ◌&&◌, nat_le, IsTrue, List, ◌∷◌, length}
use Rattle.std.specs.List.{list_all}
use Rattle.std.specs.Char.{is_ascii_digit}
use Rattle.std.specs.Str.Parse.{digits_value}
use Rattle.sigtext.specs.Bytes.{IsWord}

-- a whole number of seconds, 1 to 604800, of 1 to 6 digits without a leading zero
pub record IsExpiry (text : List ℕ) (n : ℕ) : Type 0 where
  pub digits : IsWord is_ascii_digit 6 text
  pub first : (rest : List ℕ) → text ≢ 48 ∷ rest
  pub value : n ≡ digits_value 10 text
  pub least : 1 ≤ n
  pub most : n ≤ 604800

-- 0-9 a-f
abbrev pub is_hex_digit : ℕ → Bool
is_hex_digit b = is_ascii_digit b || (nat_le 97 b && nat_le b 102)

-- 64 lower-case hexadecimal digits
pub record IsHexDigest (text : List ℕ) : Type 0 where
  pub long : length text ≡ 64
  pub digits : IsTrue (list_all is_hex_digit text)
