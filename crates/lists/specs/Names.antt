-- The names of exported files.
use Rattle.std.specs.Prelude.{◌≡◌, ◌≢◌, ◌⊎◌, ◌==◌, ◌||◌, not, ℕ, ◌+◌, ◌-◌, ◌<◌, ◌≤◌, Bool, IsTrue, nat_le, List, [], ◌∷◌, ◌++◌, length, take, decimal, slice_index, codes, IsUtf8}
use Rattle.std.specs.Str.{IsCharBoundary}

-- no control byte, and none of / \ : * ? " < > |
abbrev pub is_plain : ℕ → Bool
is_plain b = not (nat_le b 31 || b == 127 || b == 47 || b == 92 || b == 58 || b == 42 || b == 63 || b == 34 || b == 60 || b == 62 || b == 124)

-- the part after the last slash of a name; the name itself if it has no slash
pub record IsLastPart (name part : List ℕ) : Type 0 where
  pub before : List ℕ
  pub cut : (name ≡ part) ⊎ (name ≡ before ++ 47 ∷ part)
  pub no_slash : (i : ℕ) → i < length part → slice_index part i ≢ 47

-- as many whole UTF-8 characters as fit in n bytes
pub record AreCharacters (n : ℕ) (text front : List ℕ) : Type 0 where
  pub size : ℕ
  pub is : front ≡ take size text
  pub short : size ≤ n
  pub whole : IsCharBoundary text size
  pub most : (i : ℕ) → size < i → i ≤ n → IsCharBoundary text i → ⊥

-- as many whole characters as fit in 200 bytes; empty if the bytes are not UTF-8
pub record IsFront (part front : List ℕ) : Type 0 where
  pub text : IsUtf8 part → AreCharacters 200 part front
  pub other : (IsUtf8 part → ⊥) → front ≡ []

-- the first n bytes are dots
abbrev pub AreDots : List ℕ → ℕ → Type 0
AreDots text n = (i : ℕ) → i < n → slice_index text i ≡ 46

-- the byte at this index is allowed in a file's name: it is plain, not one of the dots at the beginning, and not a dot or a
-- space at the end
pub record MayStand (text : List ℕ) (i : ℕ) : Type 0 where
  pub plain : IsTrue (is_plain (slice_index text i))
  pub begun : AreDots text (i + 1) → ⊥
  pub no_dot : i + 1 ≡ length text → slice_index text i ≢ 46
  pub no_space : i + 1 ≡ length text → slice_index text i ≢ 32

-- these are the first bytes of the front: each allowed byte as it is, and `_` for each other byte
pub record AreCleaned (front part : List ℕ) : Type 0 where
  pub size : length part ≤ length front
  pub kept : (i : ℕ) → i < length part → MayStand front i → slice_index part i ≡ slice_index front i
  pub other : (i : ℕ) → i < length part → (MayStand front i → ⊥) → slice_index part i ≡ 95

-- the whole front, cleaned; `_` if it is empty
pub record IsPart (front part : List ℕ) : Type 0 where
  pub none : length front ≡ 0 → part ≡ 95 ∷ []
  pub some : 0 < length front → AreCleaned front part × (length part ≡ length front)

-- the number, `-`, and the cleaned last part of the name
pub record IsExportName (number : ℕ) (name text : List ℕ) : Type 0 where
  pub last : List ℕ
  pub is_last : IsLastPart name last
  pub front : List ℕ
  pub is_front : IsFront last front
  pub part : List ℕ
  pub is_part : IsPart front part
  pub is : text ≡ decimal number ++ 45 ∷ part

-- the folder's name before cleaning: the box's name, except for a box named like a list beside the folders, even if case is
-- ignored
abbrev pub IsCalled : List ℕ → List ℕ → Type 0
IsCalled box name =
    ((box ≡ codes "files.csv") × (name ≡ codes "files_csv"))
    ⊎ (((box ≡ codes "sha256sums") × (name ≡ codes "sha256_sums"))
    ⊎ ((box ≢ codes "files.csv") × (box ≢ codes "sha256sums") × (name ≡ box)))

-- the folder's name, cleaned like the name of a file. So a box `..` gives no path to the outside.
pub record IsFolderName (box text : List ℕ) : Type 0 where
  pub called : List ℕ
  pub is_called : IsCalled box called
  pub front : List ℕ
  pub is_front : IsFront called front
  pub is_part : IsPart front text

-- a single path component: each byte is plain, so none is a slash; it is neither `.` nor `..`, and does not end with a dot or a
-- space
pub record IsComponent (text : List ℕ) : Type 0 where
  pub some : 0 < length text
  pub short : length text ≤ 255
  pub plain : (i : ℕ) → i < length text → IsTrue (is_plain (slice_index text i))
  pub not_here : text ≢ 46 ∷ []
  pub not_above : text ≢ 46 ∷ 46 ∷ []
  pub no_dot : slice_index text (length text - 1) ≢ 46
  pub no_space : slice_index text (length text - 1) ≢ 32
