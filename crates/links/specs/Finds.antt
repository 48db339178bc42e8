-- What a call that may find nothing, or fail, says of what it finds.
use Rattle.std.specs.Prelude.{Option, Result, IfOk, IfSome}

-- what was found has the property
abbrev pub IfFound : {A E : Type 0} → Result (Option A) E → (A → Type 0) → Type 0
IfFound result Holds = IfOk result (λ found. IfSome found Holds)
