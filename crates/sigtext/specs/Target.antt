-- What a request target in origin form says (RFC 9112, section 3.2.1): the decoded path, and the decoded parameters
-- in their order.
use Rattle.std.specs.Prelude.{◌≡◌, ℕ, ◌<◌, ◌⊎◌, List, [], ◌∷◌, ◌++◌, length, ⊤}
use Rattle.std.specs.List.{join_with_byte}
use Rattle.sigtext.specs.Spelling.{Spells}

-- a parameter, decoded
pub record Param : Type 0 where
  pub name : List ℕ
  pub value : List ℕ

-- A piece of the query is a name of at least one byte, alone (then the value is empty) or followed by `=` and the
-- value. `&` and `=` must be escaped in the name, and `&` in the value.
abbrev pub SpellsParam : List ℕ → Param → Type 0
SpellsParam piece p =
    (0 < length p.name)
    × ((Spells (38 ∷ 61 ∷ []) piece p.name × (p.value ≡ []))
    ⊎ ((name value : List ℕ) × (piece ≡ name ++ 61 ∷ value)
    × Spells (38 ∷ 61 ∷ []) name p.name × Spells (38 ∷ []) value p.value))

-- each piece spells the parameter at the same place
abbrev pub SpellsParams : List (List ℕ) → List Param → Type 0
SpellsParams [] [] = ⊤
SpellsParams (piece ∷ pieces) (p ∷ params) = SpellsParam piece p × SpellsParams pieces params
SpellsParams [] (p ∷ params) = ⊥
SpellsParams (piece ∷ pieces) [] = ⊥

-- the query is one or more pieces, joined by `&`
abbrev pub SpellsQuery : List ℕ → List Param → Type 0
SpellsQuery text params =
    (pieces : List (List ℕ)) × (0 < length pieces) × (text ≡ join_with_byte 38 pieces) × SpellsParams pieces params

-- the first byte is an unescaped `/`
abbrev pub BeginsWithSlash : List ℕ → Type 0
BeginsWithSlash text = (rest : List ℕ) × (text ≡ 47 ∷ rest)

-- the target spells this path, in which `?` must be escaped, and then nothing, or `?` and these parameters
abbrev pub IsTargetOf : List ℕ → List ℕ → List Param → Type 0
IsTargetOf target path params =
    BeginsWithSlash target
    × ((Spells (63 ∷ []) target path × (params ≡ []))
    ⊎ ((front query : List ℕ) × (target ≡ front ++ 63 ∷ query) × Spells (63 ∷ []) front path × SpellsQuery query params))
