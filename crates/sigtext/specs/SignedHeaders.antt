-- The signed headers: their values, and the two texts that the canonical request has of them (Amazon S3 API
-- Reference, "Authenticating Requests: Using Query Parameters", task 1).
use Rattle.std.specs.Prelude.{◌≡◌, ℕ, List, [], ◌∷◌, ◌++◌, Bool, ◌||◌, ◌==◌, if◌then◌else◌, map, filter, reverse, ⊤}
use Rattle.std.specs.List.{join_with_byte, flat_map}
use Rattle.std.specs.Char.{to_ascii_lowercase}
use Rattle.sigtext.specs.Bytes.{same_bytes}

-- a field of a request's head
pub record Header : Type 0 where
  pub name : List ℕ
  pub value : List ℕ

-- a space or a tab
abbrev pub is_blank : ℕ → Bool
is_blank b = b == 32 || b == 9

abbrev pub without_leading_blanks : List ℕ → List ℕ
without_leading_blanks [] = []
without_leading_blanks (b ∷ bytes) = if is_blank b then without_leading_blanks bytes else b ∷ bytes

-- the value without leading and trailing spaces and tabs
unfoldable pub trimmed : List ℕ → List ℕ
trimmed bytes = reverse (without_leading_blanks (reverse (without_leading_blanks bytes)))

-- the name in lower case
abbrev pub lower_case : List ℕ → List ℕ
lower_case name = map to_ascii_lowercase name

-- the fields with this lower-case name; ASCII case is ignored
abbrev pub named : List ℕ → List Header → List Header
named name headers = filter (λ h. same_bytes (lower_case h.name) name) headers

-- exactly one field has this name, and its trimmed value is this one
abbrev pub IsSignedValue : List Header → List ℕ → List ℕ → Type 0
IsSignedValue headers name value =
    (h : Header) × (named name headers ≡ h ∷ []) × (value ≡ trimmed h.value)

-- each signed name with its value, in the order of the names
abbrev pub AreSignedValues : List Header → List (List ℕ) → List Header → Type 0
AreSignedValues headers [] [] = ⊤
AreSignedValues headers (name ∷ names) (s ∷ signed) =
    (s.name ≡ name) × IsSignedValue headers name s.value × AreSignedValues headers names signed
AreSignedValues headers [] (s ∷ signed) = ⊥
AreSignedValues headers (name ∷ names) [] = ⊥

-- the canonical headers: `name:value` and a line feed for each
abbrev pub canonical_headers : List Header → List ℕ
canonical_headers signed = flat_map (λ s. s.name ++ 58 ∷ s.value ++ 10 ∷ []) signed

-- the signed headers: the names, joined by `;`
abbrev pub signed_headers : List Header → List ℕ
signed_headers signed = join_with_byte 59 (map (λ s. s.name) signed)
