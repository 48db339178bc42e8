-- The first state of an office with offset 0 and allowance 0.
use Rattle.std.proofs.Common.{◌≡◌, ℕ, ℤ, List, pos, subst, arith}
use Rattle.sigv4.specs.Credential.{IsKeyId, IsSecret}
use Rattle.boxes.specs.FirstState.{first_state}
use Rattle.boxes.specs.Sound.{IsSound}
use Rattle.boxes.specs.State.{State}
use Rattle.boxes.proofs.SoundFirstState.{sound_first_state}

pub sound_office : (id secret : List ℕ) → IsKeyId id → IsSecret secret → IsSound (first_state (pos 0) 0 id secret)
sound_office id secret is_id is_secret = sound_first_state (pos 0) 0 id secret (omega arith) (omega arith) (omega arith) is_id is_secret

-- a property of the first state with this offset and allowance, which are both 0
pub of_office : (P : State → Type 0) (east : ℤ) (allowance : ℕ) (id secret : List ℕ) → east ≡ pos 0 → allowance ≡ 0
    → P (first_state east allowance id secret) → P (first_state (pos 0) 0 id secret)
of_office P east allowance id secret at_0 none holds =
    subst (λ (a : ℕ). P (first_state (pos 0) a id secret)) none (subst (λ (o : ℤ). P (first_state o allowance id secret)) at_0 holds)
