-- Connections that a listener accepted: they came, were served in turns, and went.
use Rattle.std.specs.Prelude.{◌≡◌, ◌≤◌, ◌+◌, ◌++◌, zero, suc, ℕ, List, None, Option, length, true}
use Rattle.std.specs.List.{count_by}
use Rattle.boxes.specs.State.{State}
use Rattle.boxes.specs.declared.keep.Keeper.{Ghosts}
use Rattle.wire.specs.declared.gathered.Gathered.{Gathered}
use Rattle.wire.specs.declared.outbox.Outbox.{Outbox}
use Rattle.wire.specs.Crowds.{GivenTurn, slot_at, those_of}
use Rattle.wire.specs.declared.seat.Seat.{Seat}
use Rattle.office.specs.Crowds.{ServesCrowd}
use Rattle.office.specs.Premise.{IsLeft, WasKept}
use Rattle.sockets.specs.Accepting.{Admits, HasGiven, lacks_answers}
use Rattle.sockets.specs.Listening.{Event}
use Rattle.commands.specs.declared.rounds.Outcome.{Outcome}

-- how many may be open at a time if this many are asked for: at least one
abbrev pub at_least_one : ℕ → ℕ
at_least_one zero = 1
at_least_one (suc n) = suc n

-- These connections of a listener came, and those went. There are as many slots as may be open at a time. The
-- outcome tells how many came, how many were refused, and how many of those that went lack answers. Those
-- that came, were refused or still wait are at most as many as were to come. The outcome says that the
-- service was not broken off exactly if as many came or were refused as were to come, all that came have
-- gone, and no slot is taken. before, after: what the listener tells before and after.
pub record Accepts {S E : Type 0} (before after : List (Event S E) → Type 0) (are_ends : S → E → E → Type 0) (connections most : ℕ)
    (came gone : List (Seat (Gathered E) (Outbox E))) (slots : List (Option (Seat (Gathered E) (Outbox E)))) (outcome : Outcome) : Type 0 where
  pub events : List (Event S E)
  pub waits : Option S
  pub tells : (log : List (Event S E)) → before log → after (log ++ events)
  pub admits : Admits are_ends most events waits came gone outcome.refused
  pub room : length slots ≡ most
  pub counted : outcome.came ≡ length came
  pub unsent : outcome.unsent ≡ count_by lacks_answers gone
  pub within : length came + outcome.refused + length (those_of waits) ≤ connections
  pub all : outcome.is_whole ≡ true → outcome.came + outcome.refused ≡ connections
  pub left : outcome.is_whole ≡ true → (length gone ≡ length came) × ((p : ℕ) → slot_at slots p ≡ None)
  pub whole : outcome.came + outcome.refused ≡ connections → length gone ≡ length came → ((p : ℕ) → slot_at slots p ≡ None) → outcome.is_whole ≡ true

-- Connections of a listener came, were served in turns, and went; those that did not go are in the slots. Each
-- turn was given to a connection that came, and at most 2^64 - 1 turns were given. If the keeper meant a sound
-- state before and is honest after, it means the state after, which is sound, and the connections were served
-- from the one to the other, in exactly these turns.
pub record ServesMany {C K S E : Type 0} (gives : C → ℕ → C → Type 0) (told told' : List (Event S E) → Type 0) (are_ends : S → E → E → Type 0)
    (remaining : Gathered E → Option (List ℕ)) (contents : Outbox E → Option (List ℕ)) (clock clock' : C) (k : Ghosts K) (keeper keeper' : K)
    (connections most : ℕ) (slots : List (Option (Seat (Gathered E) (Outbox E)))) (outcome : Outcome) : Type 0 where
  pub came : List (Seat (Gathered E) (Outbox E))
  pub gone : List (Seat (Gathered E) (Outbox E))
  pub given : List GivenTurn
  pub accepts : Accepts told told' are_ends connections most came gone slots outcome
  -- left: how many more turns the loop might have given
  pub left : ℕ
  pub gave : HasGiven (length came) left given
  pub serves : (s : State) → WasKept k keeper keeper' s → (after : State) × IsLeft (k.means keeper') after
      × ServesCrowd gives remaining contents came gone slots clock clock' k keeper keeper' zero given outcome.faulty s after
