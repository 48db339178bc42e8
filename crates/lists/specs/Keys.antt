-- The list of keys.
use Rattle.std.specs.Prelude.{◌≡◌, ◌↔◌, ◌⊎◌, ℕ, Bool, true, false, List, [], ◌∷◌, ◌++◌, Contains, codes}
use Rattle.std.specs.List.{join_with_byte}
use Rattle.std.specs.List.Sorted.{IsStrictlySortedBy}
use Rattle.sigtext.specs.Bytes.{bytes_cmp}
use Rattle.boxes.specs.Limits.{IsLimitedTo}
use Rattle.boxes.specs.State.{Key, State}
use Rattle.lists.specs.Lists.{line}
use Rattle.links.specs.CommandTexts.{role_word}

abbrev pub keys_head : List (List ℕ)
keys_head = codes "key" ∷ codes "role" ∷ codes "revoked" ∷ codes "boxes" ∷ []

abbrev pub answer_word : Bool → List ℕ
answer_word true = codes "yes"
answer_word false = codes "no"

-- the names of the boxes that the key is limited to, ascending
pub record AreLimits (s : State) (id : List ℕ) (boxes : List (List ℕ)) : Type 0 where
  pub each : (box : List ℕ) → Contains boxes box ↔ IsLimitedTo s id box
  pub ascend : IsStrictlySortedBy bytes_cmp boxes

-- the last text, or the empty text if there is none
abbrev pub IsLast : List (List ℕ) → List ℕ → Type 0
IsLast texts last = ((texts ≡ []) × (last ≡ [])) ⊎ ((front : List (List ℕ)) × (texts ≡ front ++ last ∷ []))

-- the line of a key, given with its id
abbrev pub IsKeyLine : State → List ℕ × Key → List ℕ → Type 0
IsKeyLine s key text = (boxes : List (List ℕ)) × AreLimits s key.0 boxes
    × (text ≡ line (key.0 ∷ role_word key.1.role ∷ answer_word key.1.revoked ∷ join_with_byte 32 boxes ∷ []))
