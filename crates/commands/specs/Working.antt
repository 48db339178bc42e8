-- What the work of a command does to a keeper.
use Rattle.std.specs.Prelude.{◌≡◌}
use Rattle.boxes.specs.State.{State}
use Rattle.boxes.specs.declared.keep.Keeper.{Ghosts}
use Rattle.office.specs.Premise.{IsLeft, WasKept}
use Rattle.commands.specs.Asking.{Asked, IsLeftBy}

-- a crash of the keeper leaves this state, and nothing else
pub record StandsAlone {K : Type 0} (k : Ghosts K) (keeper : K) (s : State) : Type 0 where
  pub alone : (t : State) → k.leaves keeper t → t ≡ s
  pub whole : k.leaves_whole keeper

-- The keeper means a sound state, to which a step led from s. A crash leaves that state, or that state after one more of what
-- was asked.
pub record Lands {K : Type 0} (k : Ghosts K) (new : K) (s : State) (Step : State → State → Asked → Type 0) : Type 0 where
  pub after : State
  pub asked : Asked
  pub left : IsLeft (k.means new) after
  pub step : Step s after asked
  pub crash : (t : State) → k.leaves new t → IsLeftBy asked after t
  pub whole : k.leaves_whole new

-- From each sound state that the keeper meant, and that a crash left alone, it lands, if it is honest. It is in no group if it
-- was in none.
pub record Passes {K : Type 0} (k : Ghosts K) (old new : K) (Step : State → State → Asked → Type 0) : Type 0 where
  pub honest : k.is_honest new → k.is_honest old
  pub ungrouped : k.is_alone old → k.is_alone new
  pub lands : (s : State) → WasKept k old new s → StandsAlone k old s → Lands k new s Step
