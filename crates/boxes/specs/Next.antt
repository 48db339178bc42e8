-- What comes next in an order.
use Rattle.std.specs.Prelude.{◌≡◌, ℕ, List, Option, Some, None, IsSome, Vec, option_map}
use Rattle.std.specs.FinMap.{get}
use Rattle.std.specs.declared.alloc.Global.{Global}
use Rattle.std.specs.declared.cmp.Ordering.{Ordering}
use Rattle.std.specs.declared.cmp.Ordering.TheVariants.{Less}
use Rattle.boxes.specs.State.{Place, Limit, State}

-- the first existing element after this one, or none if there is none
abbrev pub IsNext : {K : Type 0} → (K → K → Ordering) → (K → Type 0) → K → Option K → Type 0
IsNext R Stands after None = (k : _) → Stands k → R after k ≡ Less → ⊥
IsNext R Stands after (Some found) = Stands found × (R after found ≡ Less) × ((k : _) → Stands k → R after k ≡ Less → R k found ≡ Less → ⊥)

-- there is a key of this id
abbrev pub IsKey : State → List ℕ → Type 0
IsKey s id = IsSome (get s.keys id)

-- there is a box of this name
abbrev pub IsBox : State → List ℕ → Type 0
IsBox s name = IsSome (get s.boxes name)

-- there is a file at this place
abbrev pub IsFile : State → Place → Type 0
IsFile s place = IsSome (get s.files place)

-- there is a file of this name in the box
abbrev pub IsFileIn : State → List ℕ → List ℕ → Type 0
IsFileIn s box name = IsFile s (record { box = box; name = name })

-- the key is limited to this box, maybe among others
abbrev pub IsLimit : State → List ℕ → List ℕ → Type 0
IsLimit s key box = IsSome (get s.limits (record { key = key; box = box }))

-- the bytes of a text, if there is one
abbrev pub text_in : Option (Vec ℕ Global) → Option (List ℕ)
text_in found = option_map (λ t. t.items) found
