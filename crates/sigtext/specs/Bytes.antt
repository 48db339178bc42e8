-- Texts as lists of bytes.
use Rattle.std.specs.Prelude.{◌≡◌, ℕ, ◌<◌, ◌≤◌, List, ◌++◌, length, Bool, ◌&&◌, IsTrue, nat_eq, nat_le}
use Rattle.std.specs.List.{AllByRecursion, list_all, starts_with}
use Rattle.std.specs.Ordering.{nat_cmp}
use Rattle.std.specs.declared.cmp.Ordering.{Ordering}
use Rattle.std.specs.Cmp.Lexicographic.{slice_cmp, pointwise}

-- each number is a byte
abbrev pub AreBytes : List ℕ → Type 0
AreBytes bytes = AllByRecursion (λ b. b < 256) bytes

-- 1 to n bytes, and each passes the test
pub record IsWord (test : ℕ → Bool) (n : ℕ) (text : List ℕ) : Type 0 where
  pub some : 0 < length text
  pub short : length text ≤ n
  pub each : IsTrue (list_all test text)

-- 0x21 to 0x7E
abbrev pub is_visible : ℕ → Bool
is_visible b = nat_le 0x21 b && nat_le b 0x7E

-- a prefix of the text
pub record IsBeginning (front text : List ℕ) : Type 0 where
  pub rest : List ℕ
  pub joined : text ≡ front ++ rest

-- the two texts are equal, byte for byte
abbrev pub same_bytes : List ℕ → List ℕ → Bool
same_bytes a b = pointwise nat_eq a b

-- the text begins with this one
abbrev pub begins_with : List ℕ → List ℕ → Bool
begins_with text front = starts_with nat_eq text front

-- the lexicographic order by bytes
abbrev pub bytes_cmp : List ℕ → List ℕ → Ordering
bytes_cmp a b = slice_cmp nat_cmp a b
