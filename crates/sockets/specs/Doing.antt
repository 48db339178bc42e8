-- What an action does to the connection in a slot, and its report.
use Rattle.std.specs.Prelude.{◌≡◌, ◌≤◌, ◌↔◌, ◌⊎◌, ◌+◌, ℕ, Bool, true, List, Option, Result, Ok, Some, None, IsNone, length, slice_set, ⊤}
use Rattle.wire.specs.Crowds.{DoneAt, SentAt, slot_at}
use Rattle.wire.specs.Slots.{Fails, PutsBack, ReadsAhead, SendsOn}
use Rattle.wire.specs.declared.seat.Seat.{Seat}
use Rattle.wire.specs.declared.gathered.Gathered.{Gathered}
use Rattle.wire.specs.Gathering.{ahead_in}
use Rattle.wire.specs.declared.gathered.Gathering.{Gathering}
use Rattle.wire.specs.declared.gathered.Gathering.TheVariants as gathering
use Rattle.wire.specs.declared.outbox.Outbox.{Outbox}
use Rattle.wire.specs.declared.outbox.Sending.TheVariants as sending
use Rattle.sockets.specs.Accepting.{IsThrough}
use Rattle.sockets.specs.Listening.{Event}
use Rattle.sockets.specs.Telling.{Calls, Enters, Stays}
use Rattle.sockets.specs.declared.actions.Action.{Action}
use Rattle.sockets.specs.declared.actions.Action.TheVariants as action
use Rattle.sockets.specs.declared.actions.Outcome.{Outcome}
use Rattle.sockets.specs.declared.actions.Outcome.TheVariants as outcome
use Rattle.sockets.specs.declared.gate.Gate.{Gate}

-- slot p has a connection that is not through
abbrev pub IsBusyAt : {E : Type 0} → List (Option (Seat (Gathered E) (Outbox E))) → ℕ → Type 0
IsBusyAt {E} slots p = (seat : Seat (Gathered E) (Outbox E)) × (slot_at slots p ≡ Some seat) × (IsThrough seat → ⊥)

-- Reading ahead once, at most n bytes, had this result. is_full tells whether n bytes came.
pub record ReadsAsMuch {S W E : Type 0} (remaining : S → Option (List ℕ)) (n : ℕ) (a b : Seat (Gathered S) W) (result : Result Gathering E) (is_full : Bool) : Type 0 where
  pub reads : ReadsAhead remaining n a b result
  pub full : is_full ≡ true ↔ (length (ahead_in b.reader.inner) ≡ length (ahead_in a.reader.inner) + n)

-- What an action did to the connection in its slot, and what came of it. A connection that was to be closed
-- stays while bytes wait for its peer. Or nothing was done: there is no such slot, or the connection was to be
-- closed but is not through, or no more closed connections can be counted. gone: how many were closed;
-- remaining, contents: what the ends of a connection have left and hold; left, given: the same for its reader
-- and its writer.
abbrev pub ActsOnSlot : {E : Type 0} → (E → Option (List ℕ)) → (E → Option (List ℕ)) → (Gathered E → Option (List ℕ)) → (Outbox E → Option (List ℕ)) → ℕ → Action → Outcome
    → List (Option (Seat (Gathered E) (Outbox E))) → List (Option (Seat (Gathered E) (Outbox E))) → Type 0
ActsOnSlot remaining contents left given gone action.Pass outcome.Passed old new = new ≡ old
ActsOnSlot remaining contents left given gone (action.Turn due) outcome.Passed old new = new ≡ old
ActsOnSlot remaining contents left given gone action.Over outcome.Passed old new = new ≡ old
ActsOnSlot remaining contents left given gone (action.Gather p n) (outcome.Gathered q came is_full) old new =
    (q ≡ p) × DoneAt left (λ a b. ReadsAsMuch remaining n a b came is_full) (came ≡ Ok gathering.Ended) old new p
ActsOnSlot remaining contents left given gone (action.Gather p n) (outcome.Stayed q) old new = (q ≡ p) × (new ≡ old) × (length old ≤ p)
ActsOnSlot remaining contents left given gone (action.Settle p) (outcome.Settled q buffer) old new = (q ≡ p) × DoneAt left (λ a b. PutsBack a b buffer) (IsNone buffer) old new p
ActsOnSlot remaining contents left given gone (action.Settle p) (outcome.Stayed q) old new = (q ≡ p) × (new ≡ old) × (length old ≤ p)
ActsOnSlot remaining contents left given gone (action.Fail p kind) (outcome.Failing q) old new = (q ≡ p) × DoneAt left (λ a b. Fails a b) ⊤ old new p
ActsOnSlot remaining contents left given gone (action.Fail p kind) (outcome.Stayed q) old new = (q ≡ p) × (new ≡ old) × (length old ≤ p)
ActsOnSlot remaining contents left given gone (action.Send p) (outcome.Sent q how) old new = (q ≡ p) × SentAt given (λ a b. SendsOn contents a b how) (how ≡ sending.Sent) old new p
ActsOnSlot remaining contents left given gone (action.Send p) (outcome.Stayed q) old new = (q ≡ p) × (new ≡ old) × (length old ≤ p)
ActsOnSlot remaining contents left given gone (action.Free p) (outcome.Freed q) old new = (q ≡ p) × (new ≡ slice_set old p None)
ActsOnSlot remaining contents left given gone (action.Free p) (outcome.Sent q how) old new =
    (q ≡ p) × (how ≡ sending.Waits) × SentAt given (λ a b. SendsOn contents a b how) ⊥ old new p
ActsOnSlot remaining contents left given gone (action.Free p) (outcome.Stayed q) old new =
    (q ≡ p) × (new ≡ old) × ((length old ≤ p) ⊎ IsBusyAt old p ⊎ (18446744073709551615 ≤ gone))
ActsOnSlot remaining contents left given gone _ _ old new = ⊥

-- What an action did to the gate and the slots, and what came of it. told: what a listener tells that it did.
abbrev pub Acts : {L S E : Type 0} → (L → List (Event S E) → Type 0) → (E → Option (List ℕ)) → (E → Option (List ℕ)) → (Gathered E → Option (List ℕ)) → (Outbox E → Option (List ℕ)) → Action → Outcome
    → Gate L S → Gate L S → List (Option (Seat (Gathered E) (Outbox E))) → List (Option (Seat (Gathered E) (Outbox E))) → Type 0
Acts told remaining contents left given action.Accept one before after old new = Calls told one before after × (new ≡ old)
Acts told remaining contents left given action.LetIn one before after old new = Enters told one before after old new
Acts told remaining contents left given what one before after old new = ActsOnSlot remaining contents left given before.gone what one old new × Stays before after
