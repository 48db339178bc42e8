-- A text that is one line.
use Rattle.std.specs.Prelude.{◌≡◌, ◌≢◌, ◌⊎◌, ◌++◌, ◌≤◌, ℕ, All, List, [], ◌∷◌, MatchOption, Option, length}

-- the text contains no LF and no CR
abbrev pub IsWithoutEnd : List ℕ → Type 0
IsWithoutEnd text = All (λ b. (b ≢ 10) × (b ≢ 13)) text

-- what follows a line: it begins with LF or CR, or it is empty
abbrev pub IsRest : List ℕ → Type 0
IsRest text = (text ≡ []) ⊎ ((byte : ℕ) × (rest : List ℕ) × (text ≡ byte ∷ rest) × ((byte ≡ 10) ⊎ (byte ≡ 13)))

-- the end of a line with nothing after it: LF, CR LF, or nothing
abbrev pub IsEnd : List ℕ → Type 0
IsEnd end = (end ≡ []) ⊎ ((end ≡ 10 ∷ []) ⊎ (end ≡ 13 ∷ 10 ∷ []))

-- the text is this one line and its end
abbrev pub IsLineOf : List ℕ → List ℕ → Type 0
IsLineOf text line = (end : List ℕ) × (text ≡ line ++ end) × IsWithoutEnd line × IsEnd end

-- found is the line of the text, which has at most `most` bytes; `None` if the text is no such line
abbrev pub IsShortLineOf : ℕ → List ℕ → Option (List ℕ) → Type 0
IsShortLineOf most text found =
    MatchOption found ((line : List ℕ) → IsLineOf text line → (length line ≤ most) → ⊥) (λ line. IsLineOf text line × (length line ≤ most))
