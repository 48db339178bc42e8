-- What a desk line does to an office.
use Rattle.std.specs.Prelude.{◌≢◌, List, ℕ, ⊤, Result, Ok, Err}
use Rattle.boxes.specs.Changes.{IsObeyed}
use Rattle.boxes.specs.Commands.{HasForm}
use Rattle.boxes.specs.State.{State}
use Rattle.boxes.specs.Steps.{Command, IsPossible}
use Rattle.links.specs.CommandTexts.{IsCommand}
use Rattle.boxes.specs.declared.keep.KeepFault.TheVariants.{Full}
use Rattle.office.specs.declared.requests.commanding.DeskFault.{DeskFault}
use Rattle.office.specs.declared.requests.commanding.DeskFault.TheVariants as fault
use Rattle.office.specs.Premise.{IsLeft}

-- the line is this command, which is well formed
pub record IsDeskLine (line : List ℕ) (command : Command) : Type 0 where
  pub is_command : IsCommand line command
  pub form : HasForm command

-- the line is not a command
abbrev pub IsNoDeskLine : List ℕ → Type 0
IsNoDeskLine line = (command : Command) → IsDeskLine line command → ⊥

-- the line is a command, and no command that it stands for is possible
pub record IsImpossibleLine (s : State) (line : List ℕ) : Type 0 where
  pub command : Command
  pub tells : IsDeskLine line command
  pub none : (other : Command) → IsDeskLine line other → IsPossible s other → ⊥

-- The line's command is possible, and the keeper means the state after it. Or the line is not a command. Or
-- its command is not possible. Or the keeper or memory failed, but not for lack of room for a receipt.
abbrev pub IsObeyedBy : {T : Type 0} → (State → Type 0) → State → List ℕ → Result T DeskFault → Type 0
IsObeyedBy means s line (Ok done) = (command : Command) × (after : State) × IsDeskLine line command × IsObeyed s command after × IsLeft means after
IsObeyedBy means s line (Err fault.Malformed) = IsNoDeskLine line
IsObeyedBy means s line (Err fault.NotPossible) = IsImpossibleLine s line
IsObeyedBy means s line (Err (fault.Kept f)) = f ≢ Full

-- the keeper failed, or memory was refused
abbrev pub IsKeepers : DeskFault → Type 0
IsKeepers (fault.Kept f) = ⊤
IsKeepers _ = ⊥
