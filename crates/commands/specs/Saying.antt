-- What a command writes to its output. Done: the command succeeded.
use Rattle.std.specs.Prelude.{◌≡◌, ℕ, List, Option, Some}
use Rattle.std.specs.Io.KnownBytes.{Appends}

-- if the command succeeded, its output is handed back with this text appended
abbrev pub Says : {W : Type 0} → (W → Option (List ℕ)) → List ℕ → Type 0 → W → Option W → Type 0
Says {W = W} contents text Done old new = Done → (out : W) × (new ≡ Some out) × Appends (contents old) (contents out) text

-- the command failed, and its output is handed back as it was
abbrev pub HandsBack : {W : Type 0} → Type 0 → W → Option W → Type 0
HandsBack Done old new = (Done → ⊥) × (new ≡ Some old)
