-- What a crash after a call may leave of an office. Within a group: what it may leave once the group is settled.
use Rattle.std.specs.Prelude.{◌≡◌, ◌≢◌, ℕ, ◌⊎◌, List, ⊤, Result, Ok, Err}
use Rattle.sigtext.specs.declared.refusal.Refusal.{Refusal}
use Rattle.sigtext.specs.declared.refusal.Refusal.TheVariants as rule
use Rattle.sigtext.specs.Request.{Request}
use Rattle.boxes.specs.Changes.{IsObeyed}
use Rattle.boxes.specs.State.{State}
use Rattle.boxes.specs.Steps.{Command, StepReply}
use Rattle.boxes.specs.Keeping.{LeavesAlone}
use Rattle.boxes.specs.declared.keep.Keeper.{Ghosts}
use Rattle.office.specs.declared.requests.commanding.DeskFault.{DeskFault}
use Rattle.office.specs.declared.requests.commanding.DeskFault.TheVariants as fault
use Rattle.office.specs.Answering.{AcceptsRequest}
use Rattle.office.specs.DeskLines.{IsDeskLine}

-- a crash leaves nothing that it could not leave before, except the current state s
pub record AddsStanding {K : Type 0} (k : Ghosts K) (old new : K) (s : State) : Type 0 where
  pub adds : (t : State) → k.leaves new t → k.leaves old t ⊎ (t ≡ s)
  pub whole : k.leaves_whole old → k.leaves_whole new

-- a crash leaves nothing that it could not leave before, except the current state s and one of the states
-- that asked allows
pub record AddsAsked {K : Type 0} (k : Ghosts K) (old new : K) (s : State) (asked : State → Type 0) : Type 0 where
  pub adds : (t : State) → k.leaves new t → k.leaves old t ⊎ (t ≡ s) ⊎ asked t
  pub whole : k.leaves_whole old → k.leaves_whole new

-- Either a crash leaves exactly the state after. Or nothing was changed, and a crash leaves nothing new
-- except the current state.
pub data Lasts {K : Type 0} (k : Ghosts K) (old new : K) (s after : State) : Type 0 where
  changed : LeavesAlone k.leaves k.leaves_whole new after → Lasts k old new s after
  unchanged : after ≡ s → AddsStanding k old new s → Lasts k old new s after

-- the same over several calls, each of which survives a crash
pub data LastsThrough {K : Type 0} (k : Ghosts K) (old new : K) (s after : State) : Type 0 where
  changed_once : ((t : State) → k.leaves new t → t ≡ after) → k.leaves_whole new → LastsThrough k old new s after
  never_changed : after ≡ s → AddsStanding k old new s → LastsThrough k old new s after

-- the keeper means the state after, and this state survives a crash
pub record Endures {K : Type 0} (k : Ghosts K) (old new : K) (s after : State) : Type 0 where
  pub meant : k.means new after
  pub lasts : Lasts k old new s after

-- the state after the request, if the request obeys every rule
pub record IsAsked (s : State) (r : Request) (now : ℕ) (after : State) : Type 0 where
  pub reply : StepReply
  pub accepts : AcceptsRequest s r now reply after

-- The state after one more request, one that was given up at this moment. given_up: the requests that were
-- given up, each with its moment.
pub record IsOneMore (given_up : Request → ℕ → Type 0) (s after : State) : Type 0 where
  pub request : Request
  pub moment : ℕ
  pub was_given_up : given_up request moment
  pub asked : IsAsked s request moment after

-- The same whatever was given up. Either a crash leaves the state after, or that state with one more request
-- that was given up, and nothing else. Or nothing was changed, and a crash leaves nothing new except the
-- current state, and that state with one more request that was given up.
pub data Survives {K : Type 0} (k : Ghosts K) (old new : K) (given_up : Request → ℕ → Type 0) (s after : State) : Type 0 where
  some_change : ((t : State) → k.leaves new t → (t ≡ after) ⊎ IsOneMore given_up after t) → k.leaves_whole new → Survives k old new given_up s after
  no_change : after ≡ s → AddsAsked k old new s (IsOneMore given_up s) → Survives k old new given_up s after

-- the state after the command that the line stands for
pub record IsToldBy (s : State) (line : List ℕ) (after : State) : Type 0 where
  pub command : Command
  pub tells : IsDeskLine line command
  pub obeyed : IsObeyed s command after

-- What a crash leaves after a refused request. After refusal 40 it may be the state with that request. After
-- any other refusal it is nothing new.
abbrev pub RefusedLasts : {K T : Type 0} → Ghosts K → K → K → State → Request → ℕ → Result T Refusal → Type 0
RefusedLasts k old new s r now (Ok x) = ⊤
RefusedLasts k old new s r now (Err q) =
    AddsAsked k old new s (IsAsked s r now) × ((q ≢ rule.TryAgain) → AddsStanding k old new s)

-- What a crash leaves after a line that was not done. After a fault of the keeper it may be the state with
-- that line. Otherwise it is nothing new.
abbrev pub UndoneLasts : {K T : Type 0} → Ghosts K → K → K → State → (State → Type 0) → Result T DeskFault → Type 0
UndoneLasts k old new s asked (Ok done) = ⊤
UndoneLasts k old new s asked (Err (fault.Kept f)) = AddsAsked k old new s asked
UndoneLasts k old new s asked (Err _) = AddsStanding k old new s
