-- Connections that a listener accepted: they came and went. The turns that they were given.
use Rattle.std.specs.Prelude.{◌≡◌, ◌<◌, ◌+◌, ◌++◌, ◌∷◌, ◌⊎◌, ◌||◌, ℕ, Bool, List, [], is_some, None, Option, Some, length, true, false, IfSome}
use Rattle.std.specs.List.{AllByRecursion}
use Rattle.std.specs.declared.io.Error.{Error}
use Rattle.wire.specs.Crowds.{GivenTurn, slot_at}
use Rattle.wire.specs.Feeds.{ahead_of}
use Rattle.wire.specs.Gathering.{HasFailed, IsCut, ahead_in}
use Rattle.wire.specs.Outgoing.{NoneFailed, WriteFailed, waits_out}
use Rattle.wire.specs.declared.gathered.Gathered.{Gathered}
use Rattle.wire.specs.declared.outbox.Outbox.{Outbox}
use Rattle.wire.specs.Seats.{IsNew}
use Rattle.wire.specs.declared.seat.Seat.{Seat}
use Rattle.wire.specs.declared.session.SessionEnd.{SessionEnd}
use Rattle.wire.specs.declared.session.SessionEnd.TheVariants.{Ended, Truncated, Refused, Limit, ReadFault, WriteFault}
use Rattle.sockets.specs.Listening.{Event, IsWant, accepted, closed, missed, opened, unready}

-- the connection is between two messages: no message is under way, no bytes are ahead or waiting, and no read
-- has failed
pub record IsIdle {E : Type 0} (seat : Seat (Gathered E) (Outbox E)) : Type 0 where
  pub between : seat.underway ≡ None
  pub untaken : ahead_of seat.standing ≡ []
  pub unread : ahead_in seat.reader.inner ≡ []
  pub unsent : waits_out seat.writer.inner ≡ []
  pub reads : HasFailed seat.reader.inner → ⊥

-- the same, and no write has failed
pub record IsUntouched {E : Type 0} (seat : Seat (Gathered E) (Outbox E)) : Type 0 where
  pub idle : IsIdle seat
  pub writes : NoneFailed seat.writer.inner

-- everything written to the connection was sent, or a write failed
abbrev pub IsSettled : {E : Type 0} → Seat (Gathered E) (Outbox E) → Type 0
IsSettled seat = (waits_out seat.writer.inner ≡ []) ⊎ WriteFailed seat.writer.inner

-- A turn may be given: everything written to the connection was sent, or each read of it fails at once.
abbrev pub MayTurn : {E : Type 0} → Seat (Gathered E) (Outbox E) → Type 0
MayTurn seat = ((waits_out seat.writer.inner ≡ []) × NoneFailed seat.writer.inner) ⊎ IsCut seat.reader.inner

-- the same of the connection in slot p
abbrev pub MayTurnAt : {E : Type 0} → List (Option (Seat (Gathered E) (Outbox E))) → ℕ → Type 0
MayTurnAt slots p = IfSome (slot_at slots p) MayTurn

-- The connection is through: it is idle if it is open, and if it ended by a failed read, its reader has a
-- fault, either from a read or because it was made to fail.
pub record IsThrough {E : Type 0} (seat : Seat (Gathered E) (Outbox E)) : Type 0 where
  pub idle : seat.end ≡ None → IsIdle seat
  pub failed : seat.end ≡ Some ReadFault → HasFailed seat.reader.inner

-- The connection may be closed.
pub record MayGo {E : Type 0} (seat : Seat (Gathered E) (Outbox E)) : Type 0 where
  pub settled : IsSettled seat
  pub through : IsThrough seat

-- the connection ended by a failed write
abbrev pub is_write_fault : Option SessionEnd → Bool
is_write_fault None = false
is_write_fault (Some WriteFault) = true
is_write_fault (Some ReadFault) = false
is_write_fault (Some Ended) = false
is_write_fault (Some Truncated) = false
is_write_fault (Some (Refused number)) = false
is_write_fault (Some Limit) = false

-- a write failed, so that an answer was not sent in full
abbrev pub lacks_answers : {E : Type 0} → Seat (Gathered E) (Outbox E) → Bool
lacks_answers seat = is_some seat.writer.inner.fault || is_write_fault seat.end

-- What a listener did, in order, and what became of its connections: the one that was accepted and waits,
-- those that came, as they came, those that went, as they were then, and how many were refused. are_ends:
-- which ends belong to a connection; most: how many may be open at a time.
pub data Admits {S E : Type 0} (are_ends : S → E → E → Type 0) (most : ℕ)
    : List (Event S E) → Option S → List (Seat (Gathered E) (Outbox E)) → List (Seat (Gathered E) (Outbox E)) → ℕ → Type 0 where
  nothing : Admits are_ends most [] None [] [] 0
  -- no connection waits, and one is accepted: it waits
  accepts : (events : List (Event S E)) (came gone : List (Seat (Gathered E) (Outbox E))) (refused : ℕ) (stream : S) → Admits are_ends most events None came gone refused
      → Admits are_ends most (events ++ accepted stream ∷ []) (Some stream) came gone refused
  -- no connection can be accepted now because of a shortage; one may be later
  misses : (events : List (Event S E)) (waits : Option S) (came gone : List (Seat (Gathered E) (Outbox E))) (refused : ℕ) (e : Error) → Admits are_ends most events waits came gone refused
      → IsWant e → Admits are_ends most (events ++ missed e ∷ []) waits came gone refused
  -- a connection can't be accepted, not because of a shortage: it is refused
  refuses : (events : List (Event S E)) (waits : Option S) (came gone : List (Seat (Gathered E) (Outbox E))) (refused : ℕ) (e : Error) → Admits are_ends most events waits came gone refused
      → (IsWant e → ⊥) → Admits are_ends most (events ++ missed e ∷ []) waits came gone (refused + 1)
  -- the waiting connection comes as a new one: its reader and its writer are its two ends, and it is
  -- untouched
  comes : (events : List (Event S E)) (stream : S) (came gone : List (Seat (Gathered E) (Outbox E))) (refused : ℕ) (seat : Seat (Gathered E) (Outbox E))
      → Admits are_ends most events (Some stream) came gone refused → length came < length gone + most
      → are_ends stream seat.reader.inner.inner seat.writer.inner.inner → IsNew seat → IsUntouched seat
      → Admits are_ends most (events ++ opened seat.reader.inner.inner seat.writer.inner.inner ∷ []) None (came ++ seat ∷ []) gone refused
  -- its ends can't be made now because of a shortage, and it is handed back: it keeps waiting
  waits_on : (events : List (Event S E)) (stream : S) (came gone : List (Seat (Gathered E) (Outbox E))) (refused : ℕ) (e : Error) → Admits are_ends most events (Some stream) came gone refused
      → IsWant e → Admits are_ends most (events ++ unready (Some stream) e ∷ []) (Some stream) came gone refused
  -- its ends can't be made, not because of a shortage, or it does not exist any more: it is refused
  turns_away : (events : List (Event S E)) (stream : S) (came gone : List (Seat (Gathered E) (Outbox E))) (refused : ℕ) (back : Option S) (e : Error)
      → Admits are_ends most events (Some stream) came gone refused → (back ≡ None) ⊎ (IsWant e → ⊥) → Admits are_ends most (events ++ unready back e ∷ []) None came gone (refused + 1)
  -- a connection goes that may: it is given back
  goes : (events : List (Event S E)) (waits : Option S) (came gone : List (Seat (Gathered E) (Outbox E))) (refused : ℕ) (seat : Seat (Gathered E) (Outbox E))
      → Admits are_ends most events waits came gone refused → MayGo seat → Admits are_ends most (events ++ closed seat ∷ []) waits came (gone ++ seat ∷ []) refused

-- These turns were given in this order, each to one of the first `came` connections. With those that may still be
-- given they are 2^64 - 1.
pub record HasGiven (came turns : ℕ) (given : List GivenTurn) : Type 0 where
  pub counted : length given + turns ≡ 18446744073709551615
  pub theirs : AllByRecursion (λ turn. turn.whose < came) given
