-- What a service does to an office. Done: it succeeded.
use Rattle.std.specs.Prelude.{◌≡◌, ◌+◌, ◌++◌, ◌⊎◌, ℕ, zero, true, List, IsPermutation, length, map, Option, Ok, Err}
use Rattle.std.specs.List.{AllByRecursion, count_by, sum_by}
use Rattle.std.specs.declared.io.Error.{Error}
use Rattle.std.specs.declared.net.socket_addr.SocketAddrV4.{SocketAddrV4}
use Rattle.boxes.specs.State.{State}
use Rattle.office.specs.Connections.{TellsMoments}
use Rattle.wire.specs.Crowds.{GivenTurn, standing_in}
use Rattle.office.specs.Crowds.{is_fault_end}
use Rattle.office.specs.Interleaved.{GaveUpWithinMessages, Interleaved, SpeakInTurns, Thread, acts_in, given_by}
use Rattle.office.specs.Repeats.{RepeatsOnce}
use Rattle.office.specs.Seats.{AreThreads, HaveReadOn, HaveTurns, TellsOneMoment, turns_of}
use Rattle.wire.specs.declared.seat.Seat.{Seat}
use Rattle.wire.specs.declared.gathered.Gathered.{Gathered}
use Rattle.wire.specs.declared.outbox.Outbox.{Outbox}
use Rattle.sockets.specs.Accepting.{HasGiven}
use Rattle.commands.specs.Rounds.{Accepts, at_least_one}
use Rattle.sockets.specs.Listening.{Event}
use Rattle.sockets.specs.declared.preparing.Limits.{Limits}
use Rattle.commands.specs.declared.rounds.Outcome.{Outcome}
use Rattle.commands.specs.declared.rounds.Served.{Served}
use Rattle.commands.specs.Asking.{Asked, turns}
use Rattle.commands.specs.Listing.{Looks}
use Rattle.commands.specs.declared.serving.Ending.{Ending}
use Rattle.commands.specs.declared.serving.Ending.TheVariants as ending_of

-- Connections came, were served in turns from one state to the other, and went, as in `ServesCrowd`, which also says what the
-- keeper makes of it.
pub record TookTurns {C R W : Type 0} (gives : C → ℕ → C → Type 0) (remaining : R → Option (List ℕ)) (contents : W → Option (List ℕ)) (came gone : List (Seat R W)) (slots : List (Option (Seat R W)))
    (clock clock' : C) (given : List GivenTurn) (faults : ℕ) (s after : State) : Type 0 where
  pub seats : List (Seat R W)
  pub all : IsPermutation seats (gone ++ standing_in slots)
  pub taken : length given ≡ sum_by turns_of seats
  pub threads : List Thread
  pub moments : List ℕ
  pub told : TellsMoments gives clock moments clock'
  pub served : AreThreads remaining contents came seats threads
  pub run : Interleaved s threads moments after
  pub whose : map (given_by zero) run.turns ≡ given
  pub each_counted : HaveTurns run.turns 0 seats
  pub one_moment : AllByRecursion TellsOneMoment run.turns
  pub by_turns : SpeakInTurns run.turns 0 threads
  pub read_on : HaveReadOn remaining run.turns 0 came threads
  pub begun : GaveUpWithinMessages run.turns 0 threads
  pub repeats : RepeatsOnce (acts_in run.turns)
  pub faulty : faults ≡ count_by (λ c. is_fault_end c.end) threads

-- Connections of a listener came, were served from one state to the other, and went; those that did not go are in the slots.
pub record ServesFrom {C S E : Type 0} (gives : C → ℕ → C → Type 0) (told told' : List (Event S E) → Type 0) (are_ends : S → E → E → Type 0)
    (remaining : Gathered E → Option (List ℕ)) (contents : Outbox E → Option (List ℕ)) (clock clock' : C)
    (connections most : ℕ) (slots : List (Option (Seat (Gathered E) (Outbox E)))) (outcome : Outcome) (s after : State) (asked : Asked) : Type 0 where
  pub came : List (Seat (Gathered E) (Outbox E))
  pub gone : List (Seat (Gathered E) (Outbox E))
  pub given : List GivenTurn
  pub accepts : Accepts told told' are_ends connections most came gone slots outcome
  pub left : ℕ
  pub gave : HasGiven (length came) left given
  pub took : TookTurns gives remaining contents came gone slots clock clock' given outcome.faulty s after
  pub were_asked : asked ≡ turns took.threads took.run.turns

-- all connections were accepted and have gone, and none ended by a fault
pub record IsFine (outcome : Outcome) : Type 0 where
  pub whole : outcome.is_whole ≡ true
  pub accepted : outcome.refused ≡ 0
  pub faultless : outcome.faulty ≡ 0

-- the service failed, and what would have listened is handed back
abbrev pub NeverListens : {N L E C : Type 0} → Type 0 → N → Ending N L E C → Type 0
NeverListens Done outside ending = (Done → ⊥) × (ending ≡ ending_of.Idle outside)

module _ {N L S E C : Type 0} (listens : SocketAddrV4 → L → Type 0) (begins : C → Type 0) (gives : C → ℕ → C → Type 0) (told : L → List (Event S E) → Type 0) (are_ends : S → E → E → Type 0)
    (remaining : Gathered E → Option (List ℕ)) (contents : Outbox E → Option (List ℕ)) (address : SocketAddrV4) (limits : Limits) where
  -- A listener and a clock were made, and the service ended with these. If it succeeded, the outcome is fine.
  pub record Listens (Done : Type 0) (ending : Ending N L E C) (s after : State) (asked : Asked) : Type 0 where
    pub first : L
    pub listened : listens address first
    pub begun : C
    pub began : begins begun
    pub last : Served L E
    pub end : C
    pub is_last : ending ≡ ending_of.Served last end
    pub outcome : Outcome
    pub is_outcome : last.outcome ≡ Ok outcome
    pub serves : ServesFrom gives (told first) (told last.listener) are_ends remaining contents begun end limits.connections (at_least_one limits.«open») last.slots.items outcome s after asked
    pub fine : Done → IsFine outcome

  -- Nothing came: what would have listened is handed back, or a listener that listens, or one with the error of the loop.
  abbrev pub NothingCame : N → Ending N L E C → Type 0
  NothingCame outside (ending_of.Idle back) = back ≡ outside
  NothingCame outside (ending_of.Listening listener) = listens address listener
  NothingCame outside (ending_of.Served last end) = listens address last.listener × begins end × ((e : Error) × (last.outcome ≡ Err e))

  -- it served, or it failed, nothing came and nothing was done
  abbrev pub MayServe : Type 0 → N → Ending N L E C → State → State → Asked → Type 0
  MayServe Done outside ending s after asked = Listens Done ending s after asked ⊎ (Looks s after asked × (Done → ⊥) × NothingCame outside ending)
