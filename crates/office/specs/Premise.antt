-- What an office's promises rely on, and what its calls leave of the keeper and its state.
use Rattle.std.specs.Prelude.{◌≡◌, ◌≤◌, ◌⊎◌, [], Bool, true, false, Result, Err, OnOk}
use Rattle.sigtext.specs.declared.refusal.Refusal.{Refusal}
use Rattle.sigtext.specs.declared.refusal.Refusal.TheVariants as rule
use Rattle.sigtext.specs.Counts.{Rose}
use Rattle.boxes.specs.State.{State}
use Rattle.boxes.specs.Sound.{IsSound}
use Rattle.boxes.specs.Keeping.{KeepsGroup}
use Rattle.boxes.specs.declared.keep.KeepFault.{KeepFault}
use Rattle.boxes.specs.declared.keep.Keeper.{Ghosts}

-- The keeper meant this state before a call, and the state is sound. The keeper is honest after the call.
pub record WasKept {K : Type 0} (k : Ghosts K) (old new : K) (s : State) : Type 0 where
  pub means : k.means old s
  pub is_honest : k.is_honest new
  pub sound : IsSound s

-- the keeper means this state after the call, and the state is sound
pub record IsLeft (meant : State → Type 0) (s : State) : Type 0 where
  pub means : meant s
  pub sound : IsSound s

-- What a call leaves of the keeper besides its state. A keeper that is honest now was honest before. Unless
-- the call gave up, no fault was counted, and an honest keeper that was open is open. The count never falls. No group is begun
-- or ended.
pub record HoldsUnless {K : Type 0} (k : Ghosts K) (old new : K) (gave_up : Type 0) : Type 0 where
  pub honest : k.is_honest new → k.is_honest old
  pub opened : k.is_honest new → k.is_open old → (gave_up → ⊥) → k.is_open new
  pub counted : (gave_up → ⊥) → k.faults new ≡ k.faults old
  pub never_less : k.faults old ≤ k.faults new
  pub group : KeepsGroup k.is_alone k.gathers old new

-- the result is refusal 40
abbrev pub IsGivenUp : {T : Type 0} → Result T Refusal → Type 0
IsGivenUp result = result ≡ Err rule.TryAgain

-- nothing is staged any more, or the keeper counted a fault
abbrev pub EndsUnstaged : {K : Type 0} → Ghosts K → K → K → Type 0
EndsUnstaged k old new = k.stages new [] ⊎ Rose (k.faults old) (k.faults new)

-- the same, if nothing was staged before
abbrev pub StaysUnstaged : {K : Type 0} → Ghosts K → K → K → Type 0
StaysUnstaged k old new = k.stages old [] → EndsUnstaged k old new

-- the result is a fault of the keeper
abbrev pub IsFault : {T : Type 0} → Result T KeepFault → Type 0
IsFault result = OnOk result ⊥

-- If something was given up, the keeper's count of faults has not fallen. Otherwise the count is unchanged,
-- and a keeper that was open is open.
abbrev pub HoldsUp : {K : Type 0} → Ghosts K → Bool → K → K → Type 0
HoldsUp k true old new = k.faults old ≤ k.faults new
HoldsUp k false old new = (k.faults new ≡ k.faults old) × (k.is_open old → k.is_open new)
