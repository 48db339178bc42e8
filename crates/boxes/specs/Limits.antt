-- Which boxes a key may use.
use Rattle.std.specs.Prelude.{ℕ, List, IsSome}
use Rattle.std.specs.FinMap.{get}
use Rattle.boxes.specs.State.{State}

-- the key's set of boxes holds this box
abbrev pub IsLimitedTo : State → List ℕ → List ℕ → Type 0
IsLimitedTo s key box = IsSome (get s.limits (record { key = key; box = box }))

-- the key's set of boxes is not empty
abbrev pub IsLimited : State → List ℕ → Type 0
IsLimited s key = (box : List ℕ) × IsLimitedTo s key box

-- the key is not limited, or its set holds the box
abbrev pub MayUse : State → List ℕ → List ℕ → Type 0
MayUse s key box = IsLimited s key → IsLimitedTo s key box
