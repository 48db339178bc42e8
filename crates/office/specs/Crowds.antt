-- Connections that come, are served in turns, and go. Each has a slot while it is there.
use Rattle.std.specs.Prelude.{◌≡◌, ℕ, Bool, false, List, ◌++◌, IsPermutation, length, map, Option, Some, None}
use Rattle.std.specs.List.{AllByRecursion, count_by, sum_by}
use Rattle.boxes.specs.State.{State}
use Rattle.boxes.specs.declared.keep.Keeper.{Ghosts}
use Rattle.wire.specs.Crowds.{GivenTurn, standing_in}
use Rattle.wire.specs.Ends.{is_fault}
use Rattle.wire.specs.declared.seat.Seat.{Seat}
use Rattle.wire.specs.declared.session.SessionEnd.{SessionEnd}
use Rattle.office.specs.Connections.{TellsMoments}
use Rattle.office.specs.Crashes.{Survives}
use Rattle.office.specs.Interleaved.{GaveUpWithinMessages, HaveGivenUp, Interleaved, SpeakInTurns, Thread, acts_in, given_by}
use Rattle.office.specs.Repeats.{RepeatsOnce}
use Rattle.office.specs.Seats.{AreThreads, HaveReadOn, HaveTurns, LastsOver, ReadsInFull, StaysSo, TakesTurn, TellsOneMoment, TellsTurn, turns_of}

-- the connection ended by a failed read or write
abbrev pub is_fault_end : Option SessionEnd → Bool
is_fault_end None = false
is_fault_end (Some e) = is_fault e

-- the connection ended like that in this turn
abbrev pub fails_now : Option SessionEnd → Option SessionEnd → Bool
fails_now None new = is_fault_end new
fails_now (Some e) new = false

-- What a turn makes of a slot, and whether its connection ended by a fault in the turn. most: how many bytes may be
-- read in it.
pub data TurnsSlot {C K R W : Type 0} (gives : C → ℕ → C → Type 0) (remaining : R → Option (List ℕ)) (contents : W → Option (List ℕ)) (most : Option ℕ) (clock clock' : C) (k : Ghosts K) (keeper keeper' : K)
    (s after : State) : Option (Seat R W) → Option (Seat R W) → Bool → Type 0 where
  -- the slot is free, and nothing was done
  nobody : clock' ≡ clock → keeper' ≡ keeper → after ≡ s → TurnsSlot gives remaining contents most clock clock' k keeper keeper' s after None None false
  taken : (old new : Seat R W) → TakesTurn gives remaining contents old new clock clock' k keeper keeper' s after → TellsTurn old new → ReadsInFull remaining most old new
      → TurnsSlot gives remaining contents most clock clock' k keeper keeper' s after (Some old) (Some new) (fails_now old.end new.end)

-- These connections came and were served in turns. Some of them went, as they were then, and the others stand
-- in the slots. The record gives the turns, the moments, each connection, the state after, how the keeper
-- held up, what survives a crash, and how many ended by a fault. An upload acts once over all of them. first:
-- the count of connections before these; given: the turns that the crowd gave, in order.
pub record ServesCrowd {C K R W : Type 0} (gives : C → ℕ → C → Type 0) (remaining : R → Option (List ℕ)) (contents : W → Option (List ℕ)) (came gone : List (Seat R W)) (slots : List (Option (Seat R W)))
    (clock clock' : C) (k : Ghosts K) (keeper keeper' : K) (first : ℕ) (given : List GivenTurn) (faults : ℕ) (s after : State) : Type 0 where
  -- each connection that came, as it was last
  pub seats : List (Seat R W)
  -- the connections that came are exactly those that went and those that stand in the slots
  pub all : IsPermutation seats (gone ++ standing_in slots)
  -- each turn was taken
  pub taken : length given ≡ sum_by turns_of seats
  pub threads : List Thread
  pub moments : List ℕ
  pub told : TellsMoments gives clock moments clock'
  pub served : AreThreads remaining contents came seats threads
  pub run : Interleaved s threads moments after
  -- The turns of the order are those that the crowd gave. Each connection has as many as it took. Each turn tells
  -- at most one moment.
  pub whose : map (given_by first) run.turns ≡ given
  pub each_counted : HaveTurns run.turns 0 seats
  pub one_moment : AllByRecursion TellsOneMoment run.turns
  -- Each turn of a connection answers exactly one message in full, or only reads on and tells no moment, except
  -- the turn in which it ends. That one is its last and answers none in full.
  pub by_turns : SpeakInTurns run.turns 0 threads
  -- A turn that only reads on read as many bytes as the crowd let it, and those that came of the message are no whole
  -- message.
  pub read_on : HaveReadOn remaining run.turns 0 came threads
  -- A connection gave up only within a message that had begun: never before bytes of it were read.
  pub begun : GaveUpWithinMessages run.turns 0 threads
  pub repeats : RepeatsOnce (acts_in run.turns)
  pub stays : StaysSo k threads keeper keeper' after
  pub lasts : LastsOver k threads keeper keeper' s after
  pub survives : Survives k keeper keeper' (HaveGivenUp run.turns 0 threads) s after
  pub faulty : faults ≡ count_by (λ c. is_fault_end c.end) threads
