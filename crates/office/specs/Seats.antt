-- Connections that are served in turns, before and after.
use Rattle.std.specs.Prelude.{◌≡◌, ◌≢◌, ◌≤◌, ◌+◌, ◌⊎◌, ℕ, suc, Bool, true, false, cond, is_some, List, [], ◌∷◌, length, Option, Some, None, ⊤}
use Rattle.std.specs.Io.KnownBytes.{Appends, Consumes, Keeps}
use Rattle.std.specs.List.{AllByRecursion}
use Rattle.std.specs.Option.{ForSome}
use Rattle.sigtext.specs.Counts.{Rose}
use Rattle.boxes.specs.State.{State}
use Rattle.boxes.specs.declared.keep.Keeper.{Ghosts}
use Rattle.wire.specs.Feeding.{Awaits, AwaitsHead}
use Rattle.wire.specs.Feeds.{ahead_of}
use Rattle.wire.specs.Seats.{came_behind, left_of}
use Rattle.wire.specs.Waiting.{TakesAll}
use Rattle.wire.specs.declared.seat.Seat.{Seat}
use Rattle.wire.specs.declared.standing.Standing.{Standing}
use Rattle.wire.specs.declared.underway.Underway.{Underway}
use Rattle.wire.specs.declared.session.SessionEnd.{SessionEnd}
use Rattle.wire.specs.declared.session.SessionEnd.TheVariants.{ReadFault}
use Rattle.office.specs.Connections.{IsStream, Serves}
use Rattle.office.specs.Crashes.{LastsThrough}
use Rattle.office.specs.Interleaved.{ReadOn, Thread, Turn, own_turns, turns_by}
use Rattle.office.specs.Sessions.{EndsAtOnce, HasBegunMessage, most_messages}
use Rattle.office.specs.Stepping.{Goes, StandsBy, TellsStep}

-- how many turns of a connection only read on
abbrev pub waits_of : {R W : Type 0} → Seat R W → ℕ
waits_of seat = length seat.waited.items

-- One turn of a connection.
pub data TakesTurn {C K R W : Type 0} (gives : C → ℕ → C → Type 0) (remaining : R → Option (List ℕ)) (contents : W → Option (List ℕ)) (old new : Seat R W) (clock clock' : C)
    (k : Ghosts K) (keeper keeper' : K) (s after : State) : Type 0 where
  -- it had ended before, and nothing was done
  had_ended : (e : SessionEnd) → old.end ≡ Some e → new ≡ old → clock' ≡ clock → keeper' ≡ keeper → after ≡ s
      → TakesTurn gives remaining contents old new clock clock' k keeper keeper' s after
  -- its next message was answered, and it goes on
  went_on : old.end ≡ None → new.end ≡ None → new.served ≡ old.served + 1 → new.waited ≡ old.waited
      → Goes gives (left_of remaining old) (left_of remaining new) (contents old.writer.inner) (contents new.writer.inner) clock clock' k keeper keeper' s after
      → TakesTurn gives remaining contents old new clock clock' k keeper keeper' s after
  -- it read on in its next message, and goes on: nothing was told, written or answered
  read_on : old.end ≡ None → new.end ≡ None → new.served ≡ old.served → waits_of new ≡ waits_of old + 1
      → Keeps (left_of remaining old) (left_of remaining new) → new.writer ≡ old.writer → StandsBy clock clock' k keeper keeper' s → after ≡ s
      → TakesTurn gives remaining contents old new clock clock' k keeper keeper' s after
  -- It ended like a session of n messages, where n is the most that were still to come. It did not go on
  -- after a message. If it gave up, it was within a message that had begun, so bytes of it were read.
  ended : (n : ℕ) (e : SessionEnd) → old.end ≡ None → new.end ≡ Some e → new.served ≡ old.served → new.waited ≡ old.waited → n + old.served ≡ most_messages
      → (serves : Serves n gives (left_of remaining old) (remaining new.reader.inner) (contents old.writer.inner) (contents new.writer.inner) clock clock' k keeper keeper' s after e)
      → EndsAtOnce serves.session → (serves.gave_up ≡ true → HasBegunMessage serves.stream) → TakesTurn gives remaining contents old new clock clock' k keeper keeper' s after

-- the faults that were counted in a turn
abbrev pub TellsTurnOf : {R W : Type 0} → Option SessionEnd → Seat R W → Seat R W → Type 0
TellsTurnOf None old new = TellsStep new.end old.reader new.reader old.writer new.writer
TellsTurnOf (Some e) old new = new ≡ old

abbrev pub TellsTurn : {R W : Type 0} → Seat R W → Seat R W → Type 0
TellsTurn old new = TellsTurnOf old.end old new

-- the stream of a connection, whether it ended or not
abbrev pub IsStreamOf : Bool → Option SessionEnd → Option (List ℕ) → Option (List ℕ) → Option (List ℕ) → List ℕ → Type 0
IsStreamOf gave_up None input left reader stream = Consumes input left stream
IsStreamOf gave_up (Some e) input left reader stream = IsStream gave_up e input reader stream

-- each connection as it was served: what its reader gave, what was written to it, and what its end tells
abbrev pub AreThreads : {R W : Type 0} → (R → Option (List ℕ)) → (W → Option (List ℕ)) → List (Seat R W) → List (Seat R W) → List Thread → Type 0
AreThreads remaining contents [] [] [] = ⊤
AreThreads remaining contents (old ∷ olds) (new ∷ news) (c ∷ cs) =
    (c.end ≡ new.end) × IsStreamOf c.gave_up c.end (left_of remaining old) (left_of remaining new) (remaining new.reader.inner) c.stream
    × Appends (contents old.writer.inner) (contents new.writer.inner) c.answers × TellsStep c.end old.reader new.reader old.writer new.writer
    × AreThreads remaining contents olds news cs
AreThreads remaining contents olds news cs = ⊥

abbrev pub NoThreadGaveUp : List Thread → Type 0
NoThreadGaveUp threads = AllByRecursion (λ c. c.gave_up ≡ false) threads

-- If no connection gave up, the keeper's count is unchanged, and a keeper that was open is open and means
-- exactly this state. If a connection gave up at a failed read, the count rose.
pub record StaysSo {K : Type 0} (k : Ghosts K) (threads : List Thread) (keeper keeper' : K) (after : State) : Type 0 where
  pub counted : NoThreadGaveUp threads → k.faults keeper' ≡ k.faults keeper
  pub rose : AllByRecursion (λ c. c.gave_up ≡ true → c.end ≡ Some ReadFault → Rose (k.faults keeper) (k.faults keeper')) threads
  pub opened : NoThreadGaveUp threads → k.is_open keeper → k.is_open keeper' × ((t : State) → k.means keeper' t → t ≡ after)

-- if nothing was given up except at a failed read, the state after survives a crash
abbrev pub LastsOver : {K : Type 0} → Ghosts K → List Thread → K → K → State → State → Type 0
LastsOver k threads keeper keeper' s after =
    AllByRecursion (λ c. (c.gave_up ≡ false) ⊎ (c.end ≡ Some ReadFault)) threads → LastsThrough k keeper keeper' s after

-- the number of turns of a connection: one for each message after which it went on, those in which it only read
-- on, and one in which it ended
abbrev pub turns_of : {R W : Type 0} → Seat R W → ℕ
turns_of seat = seat.served + waits_of seat + cond (is_some seat.end) 1 0

-- each connection, from number i on, has as many turns as it took
abbrev pub HaveTurns : {R W : Type 0} → List Turn → ℕ → List (Seat R W) → Type 0
HaveTurns turns i [] = ⊤
HaveTurns turns i (seat ∷ seats) = (turns_by i turns ≡ turns_of seat) × HaveTurns turns (suc i) seats

-- More bytes of the message are needed. None of a head is taken that has not come whole, and of a body all that came.
pub record LacksRest (underway : Option Underway) (standing : Standing) : Type 0 where
  pub awaits : ∥ Awaits (came_behind underway standing) ∥₁
  pub head : underway ≡ None → AwaitsHead (came_behind underway standing)
  pub body : ForSome underway (λ _. ahead_of standing ≡ [])

-- If the turn only read on, it read all the bytes that it might, and more of the message are needed. most: how many it
-- might read, without end if there is no number.
pub record ReadsInFull {R W : Type 0} (remaining : R → Option (List ℕ)) (most : Option ℕ) (old new : Seat R W) : Type 0 where
  pub all : (new.waited ≢ old.waited) → TakesAll most (remaining old.reader.inner) (remaining new.reader.inner)
  pub lacks : (new.waited ≢ old.waited) → LacksRest new.underway new.standing

-- the turns of each connection, from number i on, which came like this, read what they might
abbrev pub HaveReadOn : {R W : Type 0} → (R → Option (List ℕ)) → List Turn → ℕ → List (Seat R W) → List Thread → Type 0
HaveReadOn remaining turns i [] [] = ⊤
HaveReadOn remaining turns i (seat ∷ seats) (c ∷ cs) = ReadOn c.end (left_of remaining seat) (own_turns i turns) × HaveReadOn remaining turns (suc i) seats cs
HaveReadOn remaining turns i seats cs = ⊥

-- a turn tells at most one moment
abbrev pub TellsOneMoment : Turn → Type 0
TellsOneMoment turn = length turn.moments ≤ 1
