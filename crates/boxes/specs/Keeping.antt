-- What the calls of a keeper promise, in terms of its ghost members.
use Rattle.std.specs.Prelude.{◌≡◌, ◌≢◌, ◌↔◌, ℕ, List, ◌⊎◌, Result, IfOk, IfErr, OnOk, OnErr, IsErrOf, ⊤}
use Rattle.sigtext.specs.Counts.{CountsErrors}
use Rattle.boxes.specs.State.{State}
use Rattle.boxes.specs.Sound.{IsSound}
use Rattle.boxes.specs.declared.keep.KeepFault.{KeepFault}
use Rattle.boxes.specs.declared.keep.KeepFault.TheVariants.{Full, Store}

-- the value of a success satisfies `Holds` for the state, if the state is sound and the store is honest
abbrev pub Answers : {K T : Type 0} → (K → State → Type 0) → (K → Type 0) → K → K → Result T KeepFault → (State → T → Type 0) → Type 0
Answers means is_honest old new result Holds = (s : State) → means old s → IsSound s → is_honest new → IfOk result (Holds s)

-- The call begins no group and ends none.
pub record KeepsGroup {K : Type 0} (is_alone : K → Type 0) (gathers : K → K → Type 0) (old new : K) : Type 0 where
  pub alone : is_alone old → is_alone new
  pub same : (first : K) → gathers first old → gathers first new

-- What a call that changes nothing leaves, whatever it returns. The state is the same. A store that is honest now was
-- honest before, and if it was open, it is open after a success. An error is counted. It is never `Full`, and it is
-- `Store` only if there is a store. A crash leaves nothing new except the current state. No group is begun or ended.
pub record Stays {K T : Type 0} (means : K → State → Type 0) (is_honest is_open : K → Type 0) (faults : K → ℕ)
    (leaves : K → State → Type 0) (leaves_whole : K → Type 0) (has_store : Type 0) (is_alone : K → Type 0) (gathers : K → K → Type 0) (old new : K) (result : Result T KeepFault) : Type 0 where
  pub same : (s : State) → means old s → means new s
  pub honest : is_honest new → is_honest old
  pub opened : is_honest new → is_open old → OnOk result (is_open new)
  pub count : CountsErrors (faults old) (faults new) result
  pub room : IfErr result (λ f. f ≢ Full)
  pub store : IsErrOf result Store → has_store
  pub crash : (s t : State) → means old s → is_honest new → leaves new t → leaves old t ⊎ (t ≡ s)
  pub whole : (s : State) → means old s → is_honest new → leaves_whole old → leaves_whole new
  pub group : KeepsGroup is_alone gathers old new

-- What a call leaves that changes nothing and cannot fail. The state and the count of faults are the same. A store that is
-- honest now was honest before, and if it was open, it is open. A crash leaves nothing new except the current state.
pub record StaysSure {K : Type 0} (means : K → State → Type 0) (is_honest is_open : K → Type 0) (faults : K → ℕ)
    (leaves : K → State → Type 0) (leaves_whole : K → Type 0) (old new : K) : Type 0 where
  pub same : (s : State) → means old s → means new s
  pub honest : is_honest new → is_honest old
  pub opened : is_honest new → is_open old → is_open new
  pub count : faults new ≡ faults old
  pub crash : (s t : State) → means old s → is_honest new → leaves new t → leaves old t ⊎ (t ≡ s)
  pub whole : (s : State) → means old s → is_honest new → leaves_whole old → leaves_whole new

-- what was staged is still staged
abbrev pub KeepsStaged : {K : Type 0} → (K → List ℕ → Type 0) → K → K → Type 0
KeepsStaged stages old new = (bytes : List ℕ) → stages old bytes → stages new bytes

-- a crash leaves the state after the change, and nothing else
pub record LeavesAlone {K : Type 0} (leaves : K → State → Type 0) (leaves_whole : K → Type 0) (new : K) (after : State) : Type 0 where
  pub there : leaves new after
  pub alone : (t : State) → leaves new t → t ≡ after
  pub whole : leaves_whole new

-- a crash leaves nothing new except the state before the change and the state after it
pub record LeavesEither {K : Type 0} (leaves : K → State → Type 0) (leaves_whole : K → Type 0) (old new : K) (s after : State) : Type 0 where
  pub either : (t : State) → leaves new t → leaves old t ⊎ (t ≡ s) ⊎ (t ≡ after)
  pub whole : leaves_whole old → leaves_whole new

-- ---- groups

-- The end of a group. After a success the state is the same, and a crash leaves what it was to leave once the changes were
-- kept. After an error the state is the one when the group began, and a crash leaves what it could leave then, that state, or
-- what it was to leave once all changes were kept. Outside a group there is no error.
pub record Settles {K : Type 0} (means : K → State → Type 0) (is_honest is_open : K → Type 0) (faults : K → ℕ)
    (leaves : K → State → Type 0) (leaves_whole : K → Type 0) (has_store : Type 0) (is_alone : K → Type 0) (gathers : K → K → Type 0) (old new : K) (result : Result ⊤ KeepFault) : Type 0 where
  pub alone : is_alone new
  pub idle : is_alone old → OnErr result ⊥
  pub kept : (s : State) → means old s → OnOk result (means new s)
  pub undone : (first : K) (s : State) → gathers first old → means first s → OnErr result (means new s)
  pub honest : is_honest new → is_honest old
  pub opened : is_honest new → is_open old → OnOk result (is_open new)
  pub count : CountsErrors (faults old) (faults new) result
  pub room : IfErr result (λ f. f ≢ Full)
  pub store : OnErr result has_store
  pub durable : is_honest new → OnOk result ((t : State) → leaves new t ↔ leaves old t)
  pub whole : is_honest new → leaves_whole old → OnOk result (leaves_whole new)
  pub crash : (first : K) (s t : State) → gathers first old → means first s → is_honest new → OnErr result (leaves new t → leaves first t ⊎ (t ≡ s) ⊎ leaves old t)
  pub whole_too : (first : K) (s : State) → gathers first old → means first s → is_honest new → leaves_whole first → leaves_whole old → OnErr result (leaves_whole new)

-- a crash leaves now what it leaves once the changes of the group are kept
pub record RestsSettled {K : Type 0} (leaves : K → State → Type 0) (leaves_whole : K → Type 0) (rests : K → State → Type 0) (rests_whole : K → Type 0) (k : K) : Type 0 where
  pub same : (t : State) → rests k t ↔ leaves k t
  pub whole : rests_whole k ↔ leaves_whole k

-- A crash leaves nothing of the group: what it could leave when the group began, or the state at that moment.
pub record LosesGroup {K : Type 0} (leaves : K → State → Type 0) (leaves_whole : K → Type 0) (rests : K → State → Type 0) (rests_whole : K → Type 0) (first k : K) (s : State) : Type 0 where
  pub either : (t : State) → rests k t → leaves first t ⊎ (t ≡ s)
  pub whole : leaves_whole first → rests_whole k
