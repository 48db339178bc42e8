-- What a command for the desk does to an office. Done: it succeeded.
use Rattle.std.specs.Prelude.{◌≡◌, ◌≢◌, ◌⊎◌, ℕ, List, [], ◌∷◌, codes, Option, Some, None, IfSome}
use Rattle.boxes.specs.State.{State}
use Rattle.office.specs.Crashes.{IsToldBy}
use Rattle.tasks.specs.Lines.{IsShortLineOf}
use Rattle.commands.specs.Asking.{Asked, line, nothing}
use Rattle.commands.specs.Saying.{Says}

-- `done` and LF
abbrev pub done_line : List ℕ
done_line = 100 ∷ 111 ∷ 110 ∷ 101 ∷ 10 ∷ []

-- the argument itself, or for `-` the one line of the input, of at most 4096 bytes, if its text is known
abbrev pub IsCommandOf : Option (List ℕ) → List ℕ → Option (List ℕ) → Type 0
IsCommandOf input argument command =
    (argument ≢ codes "-" → command ≡ Some argument) × (argument ≡ codes "-" → IfSome input (λ text. IsShortLineOf 4096 text command))

-- the line is done for good, or nothing is done and the command fails; without a line it fails
abbrev pub IsGiven : Option (List ℕ) → Type 0 → State → State → Asked → Type 0
IsGiven None Done s after asked = (asked ≡ nothing) × (after ≡ s) × (Done → ⊥)
IsGiven (Some text) Done s after asked = ((asked ≡ nothing) × IsToldBy s text after) ⊎ ((asked ≡ line text) × (after ≡ s) × (Done → ⊥))

-- the same, and if the command succeeds, its output says so
abbrev pub TellsLine : {W : Type 0} → (W → Option (List ℕ)) → Option (List ℕ) → Type 0 → W → Option W → State → State → Asked → Type 0
TellsLine contents command Done old new s after asked = IsGiven command Done s after asked × Says contents done_line Done old new
