-- What a command asked of an office that a crash behind it may add.
use Rattle.std.specs.Prelude.{◌≡◌, ◌⊎◌, ℕ, List, Some, false, ⊤}
use Rattle.std.specs.List.{AllByRecursion}
use Rattle.boxes.specs.State.{State}
use Rattle.office.specs.Crashes.{IsToldBy}
use Rattle.office.specs.Crashes as crash
use Rattle.office.specs.Interleaved.{HaveGivenUp, Thread, Turn}
use Rattle.office.specs.Sessions.{Connection, GaveUpIn, Run}
use Rattle.wire.specs.declared.session.SessionEnd.TheVariants.{ReadFault}

pub data Asked : Type 0 where
  -- nothing that changes an office, or nothing that is not kept for good
  nothing : Asked
  -- a line for the desk that was not done
  line : List ℕ → Asked
  -- the messages of connections, one connection after another
  connections : (s : State) (cs : List Connection) (moments : List ℕ) (after : State) → Run s cs moments after → Asked
  -- the messages of connections that were served in turns
  turns : List Thread → List Turn → Asked

-- The state after one more of what was asked, done in full: the line for the desk, or a request that was given up (answered with
-- refusal 40), at the moment that was told for it.
abbrev pub IsOneMore : Asked → State → State → Type 0
IsOneMore nothing s t = ⊥
IsOneMore (line text) s t = IsToldBy s text t
IsOneMore (connections first cs moments after run) s t = crash.IsOneMore (GaveUpIn first cs moments after run) s t
IsOneMore (turns threads ts) s t = crash.IsOneMore (HaveGivenUp ts 0 threads) s t

-- nothing was given up, except where a read failed
abbrev pub NoneGivenUp : Asked → Type 0
NoneGivenUp nothing = ⊤
NoneGivenUp (line text) = ⊥
NoneGivenUp (connections first cs moments after run) = AllByRecursion (λ c. (c.gave_up ≡ false) ⊎ (c.end ≡ ReadFault)) cs
NoneGivenUp (turns threads ts) = AllByRecursion (λ c. (c.gave_up ≡ false) ⊎ (c.end ≡ Some ReadFault)) threads

-- The state, or the state after one more of what was asked. If nothing was given up except where a read failed, it is the state.
pub record IsLeftBy (asked : Asked) (s t : State) : Type 0 where
  pub left : (t ≡ s) ⊎ IsOneMore asked s t
  pub lasts : NoneGivenUp asked → t ≡ s
