-- What a session does to its reader, its writer, its clock and its keeper.
use Rattle.std.specs.Prelude.{◌≡◌, ◌≢◌, ◌⊎◌, ℕ, List, [], ◌∷◌, Bool, true, false, count_by, Option, Some, None, ⊤}
use Rattle.std.specs.Io.KnownBytes.{Appends, Consumes, IsAtEnd}
use Rattle.std.specs.List.{AllByRecursion}
use Rattle.sigtext.specs.Counts.{Rose}
use Rattle.boxes.specs.State.{State}
use Rattle.boxes.specs.declared.keep.Keeper.{Ghosts}
use Rattle.wire.specs.declared.counted.Counted.{Counted}
use Rattle.wire.specs.Ends.{is_fault}
use Rattle.wire.specs.declared.session.SessionEnd.{SessionEnd}
use Rattle.wire.specs.declared.session.SessionEnd.TheVariants.{Ended, Truncated, Refused, Limit, ReadFault, WriteFault}
use Rattle.office.specs.Crashes.{LastsThrough, Survives}
use Rattle.office.specs.Premise.{HoldsUp}
use Rattle.office.specs.Repeats.{ActsOnce}
use Rattle.office.specs.Sessions.{GaveUpAt, GaveUpIn, Session, Connection, Run}
use Rattle.office.specs.WithoutTryAgain.{RunsWithout}

-- the clock told these moments in order
abbrev pub TellsMoments : {C : Type 0} → (C → ℕ → C → Type 0) → C → List ℕ → C → Type 0
TellsMoments gives c [] d = c ≡ d
TellsMoments {C} gives c (moment ∷ moments) d = (e : C) × gives c moment e × TellsMoments gives e moments d

-- the bytes are equal to the known bytes, if any are known
abbrev pub IsKnown : Option (List ℕ) → List ℕ → Type 0
IsKnown None bytes = ⊤
IsKnown (Some known) bytes = bytes ≡ known

-- The stream of a session. If a read failed or the session gave up, it is the bytes that were read; otherwise
-- all that the reader had. A session that ends with the stream has read all of it.
abbrev pub IsStream : Bool → SessionEnd → Option (List ℕ) → Option (List ℕ) → List ℕ → Type 0
IsStream true e old new stream = Consumes old new stream
IsStream false ReadFault old new stream = Consumes old new stream
IsStream false Ended old new stream = IsKnown old stream × IsAtEnd new
IsStream false Truncated old new stream = IsKnown old stream × IsAtEnd new
IsStream false (Refused number) old new stream = IsKnown old stream
IsStream false Limit old new stream = IsKnown old stream
IsStream false WriteFault old new stream = IsKnown old stream

-- the session may have given up: refusal 40 closed it, or writing an answer broke off, or a read failed and
-- the keeper counted a fault
abbrev pub MayGiveUp : {K : Type 0} → Ghosts K → K → K → SessionEnd → Type 0
MayGiveUp k old new e = (e ≡ Refused 40) ⊎ (e ≡ WriteFault) ⊎ ((e ≡ ReadFault) × Rose (k.faults old) (k.faults new))

-- The keeper held up. If a read failed, something was given up only if the keeper counted a fault.
abbrev pub HoldsUpTo : {K : Type 0} → Ghosts K → Bool → SessionEnd → K → K → Type 0
HoldsUpTo k gave_up e old new = HoldsUp k gave_up old new × (gave_up ≡ true → e ≡ ReadFault → Rose (k.faults old) (k.faults new))

-- What was read, told and written, and that this is a session of up to n messages in which the keeper held
-- up. If nothing was given up, or if a read failed, the state after survives a crash. In any case a crash
-- leaves that state, or that state with the request that the session gave up.
pub record Serves {C K : Type 0} (n : ℕ) (gives : C → ℕ → C → Type 0) (input input' output output' : Option (List ℕ)) (clock clock' : C)
    (k : Ghosts K) (keeper keeper' : K) (s after : State) (e : SessionEnd) : Type 0 where
  pub stream : List ℕ
  pub moments : List ℕ
  pub answers : List ℕ
  pub gave_up : Bool
  pub read : IsStream gave_up e input input' stream
  pub told : TellsMoments gives clock moments clock'
  pub written : Appends output output' answers
  pub held : HoldsUpTo k gave_up e keeper keeper'
  pub lasts : (gave_up ≡ false) ⊎ (e ≡ ReadFault) → LastsThrough k keeper keeper' s after
  pub session : Session n stream s moments answers e gave_up after
  pub survives : Survives k keeper keeper' (GaveUpAt session) s after

-- If a fault of the reader or the writer was counted, the end tells it, and no other end counts as a fault.
pub record TellsFaults {R W : Type 0} (e : SessionEnd) (reader reader' : Counted R) (writer writer' : Counted W) : Type 0 where
  pub read : e ≡ ReadFault → Rose reader.faults reader'.faults
  pub not_read : (e ≢ ReadFault) → reader'.faults ≡ reader.faults
  pub written : e ≡ WriteFault → Rose writer.faults writer'.faults
  pub not_written : (e ≢ WriteFault) → writer'.faults ≡ writer.faults

-- each connection of the list as it was served: what its reader gave, what was written to it, and what its
-- end tells
abbrev pub AreServed : {R W : Type 0} → (R → Option (List ℕ)) → (W → Option (List ℕ)) → List (Counted R × Counted W) → List (Counted R × Counted W) → List Connection → Type 0
AreServed remaining contents [] [] [] = ⊤
AreServed remaining contents (old ∷ olds) (new ∷ news) (c ∷ cs) =
    IsStream c.gave_up c.end (remaining old.0.inner) (remaining new.0.inner) c.stream × Appends (contents old.1.inner) (contents new.1.inner) c.answers
    × TellsFaults c.end old.0 new.0 old.1 new.1 × AreServed remaining contents olds news cs
AreServed remaining contents olds news cs = ⊥

-- the keeper over the connections in order
abbrev pub HoldsUpOver : {K : Type 0} → Ghosts K → List Connection → K → K → Type 0
HoldsUpOver k [] old new = new ≡ old
HoldsUpOver {K} k (c ∷ cs) old new = (mid : K) × HoldsUpTo k c.gave_up c.end old mid × HoldsUpOver k cs mid new

abbrev pub NoneGaveUp : List Connection → Type 0
NoneGaveUp cs = AllByRecursion (λ c. c.gave_up ≡ false) cs

-- if no connection gave up, a keeper that was open is open and means exactly this state
abbrev pub StaysOpen : {K : Type 0} → Ghosts K → List Connection → K → K → State → Type 0
StaysOpen k cs old new after = NoneGaveUp cs → k.is_open old → k.is_open new × ((t : State) → k.means new t → t ≡ after)

-- if nothing was given up except at a failed read, the state after survives a crash
abbrev pub LastsOverAll : {K : Type 0} → Ghosts K → List Connection → K → K → State → State → Type 0
LastsOverAll k cs keeper keeper' s after =
    AllByRecursion (λ c. (c.gave_up ≡ false) ⊎ (c.end ≡ ReadFault)) cs → LastsThrough k keeper keeper' s after

-- The whole run: the connections in order, their moments, the state after, how the keeper held up, what a
-- crash leaves, and how many connections ended by a fault. It is also a run without the messages answered
-- with refusal 40, and an upload acts once in it.
pub record Runs {C R W K : Type 0} (gives : C → ℕ → C → Type 0) (remaining : R → Option (List ℕ)) (contents : W → Option (List ℕ)) (clock clock' : C)
    (old new : List (Counted R × Counted W)) (k : Ghosts K) (keeper keeper' : K) (s after : State) (faults : ℕ) : Type 0 where
  pub connections : List Connection
  pub moments : List ℕ
  pub told : TellsMoments gives clock moments clock'
  pub served : AreServed remaining contents old new connections
  pub held : HoldsUpOver k connections keeper keeper'
  pub opened : StaysOpen k connections keeper keeper' after
  pub run : Run s connections moments after
  pub lasts : LastsOverAll k connections keeper keeper' s after
  pub survives : Survives k keeper keeper' (GaveUpIn s connections moments after run) s after
  pub without : RunsWithout s connections moments after
  pub repeats : ActsOnce s connections moments after
  pub faulty : faults ≡ count_by (λ c. is_fault c.end) connections
