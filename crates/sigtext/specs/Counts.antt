-- Counts of faults: 64 bits, saturating.
use Rattle.std.specs.Prelude.{◌≡◌, ℕ, ◌-◌, ◌^◌, ◌<◌, ◌⊎◌, Result, OnOk, OnErr}

-- the count rose, or is at its greatest value
abbrev pub Rose : ℕ → ℕ → Type 0
Rose old new = (old < new) ⊎ ((old ≡ 2 ^ 64 - 1) × (new ≡ old))

-- with an error the count rose; otherwise it is unchanged
pub record CountsErrors {T E : Type 0} (old new : ℕ) (result : Result T E) : Type 0 where
  pub err : OnErr result (Rose old new)
  pub ok : OnOk result (new ≡ old)
