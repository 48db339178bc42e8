-- Two adjacent spaces.
use Rattle.std.proofs.Common.{◌≢◌, ℕ, ◌+◌, List, [], ◌∷◌, ◌++◌, take, drop, Option, None, Some, refl}
use Rattle.std.specs.Prelude.{IsFalse, ◌↔◌, is_some}
use Rattle.memchr.specs.Find.{FindsNeedle}
use Rattle.sigtext.proofs.Needles.{absent, parted}

pub none_doubled : (value : List ℕ) (found : Option ℕ) → FindsNeedle value (32 ∷ 32 ∷ []) 0 found
    → IsFalse (is_some found) ↔ ((a b : List ℕ) → value ≢ a ++ 32 ∷ 32 ∷ b)
none_doubled value None h = (λ e a b is. absent value (32 ∷ 32 ∷ []) a b h is, λ none. refl)
none_doubled value (Some at) h =
    (λ e. absurd cc, λ none. absurd (none (take at value) (drop (at + 2) value) (parted value (32 ∷ 32 ∷ []) at h.1)))
