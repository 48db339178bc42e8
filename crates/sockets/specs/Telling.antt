-- What a gate tells of connections that may come.
use Rattle.std.specs.Prelude.{◌≡◌, ◌<◌, ◌≤◌, ◌⊎◌, ◌-◌, ◌++◌, ◌∷◌, suc, List, [], Option, Some, None, length, slice_set}
use Rattle.std.specs.declared.io.Error.{Error}
use Rattle.wire.specs.Crowds.{NoneIsFree, slot_at}
use Rattle.wire.specs.declared.seat.Seat.{Seat}
use Rattle.wire.specs.declared.gathered.Gathered.{Gathered}
use Rattle.wire.specs.declared.outbox.Outbox.{Outbox}
use Rattle.sockets.specs.Accepting.{IsUntouched}
use Rattle.sockets.specs.Listening.{Event, IsWant, accepted, missed, unready}
use Rattle.sockets.specs.declared.actions.Outcome.{Outcome}
use Rattle.sockets.specs.declared.actions.Outcome.TheVariants as outcome
use Rattle.sockets.specs.declared.gate.Gate.{Gate}

-- the listener did these further things; told: what a listener tells that it did
abbrev pub Tells : {L S E : Type 0} → (L → List (Event S E) → Type 0) → L → L → List (Event S E) → Type 0
Tells {S = S} {E = E} told old new events = (log : List (Event S E)) → told old log → told new (log ++ events)

-- no connection was asked for or let in
abbrev pub Stays : {L S : Type 0} → Gate L S → Gate L S → Type 0
Stays old new = (new.guest ≡ old.guest) × (new.to_come ≡ old.to_come) × (new.came ≡ old.came)

-- What asking for a connection tells. A connection was accepted and waits; or it can't be accepted, with or
-- without a shortage; or the listener did nothing. One less is to come if a connection was accepted or
-- refused.
abbrev pub Calls : {L S E : Type 0} → (L → List (Event S E) → Type 0) → Outcome → Gate L S → Gate L S → Type 0
Calls {S = S} told outcome.Came old new =
    (old.guest ≡ None) × (stream : S) × (new.guest ≡ Some stream) × (suc new.to_come ≡ old.to_come) × Tells told old.listener new.listener (accepted stream ∷ [])
Calls told outcome.Refused old new =
    (new.guest ≡ old.guest) × (suc new.to_come ≡ old.to_come) × (e : Error) × (IsWant e → ⊥) × Tells told old.listener new.listener (missed e ∷ [])
Calls told outcome.Wanting old new = (new.guest ≡ old.guest) × (new.to_come ≡ old.to_come) × (e : Error) × IsWant e × Tells told old.listener new.listener (missed e ∷ [])
Calls told outcome.NoneCame old new = (new.guest ≡ old.guest) × (new.to_come ≡ old.to_come) × Tells told old.listener new.listener []
Calls told _ old new = ⊥

-- Why the waiting connection keeps waiting: no more can be counted, or as many are open as allowed, or no
-- slot is free, or its ends can't be made now because of a shortage.
abbrev pub IsPutOff : {L S E X : Type 0} → (L → List (Event S E) → Type 0) → Gate L S → Gate L S → List (Option X) → Type 0
IsPutOff told old new slots =
    (18446744073709551615 ≤ old.came) ⊎ (old.most ≤ old.came - old.gone) ⊎ NoneIsFree slots (length slots)
    ⊎ ((e : Error) × IsWant e × Tells told old.listener new.listener (unready old.guest e ∷ []))

-- What letting in the waiting connection tells. It came untouched into this slot, which was free, and the
-- other slots are unchanged. Or the slots are unchanged, and either no connection waits any more or it keeps
-- waiting.
abbrev pub Enters : {L S E : Type 0} → (L → List (Event S E) → Type 0) → Outcome → Gate L S → Gate L S → List (Option (Seat (Gathered E) (Outbox E))) → List (Option (Seat (Gathered E) (Outbox E))) → Type 0
Enters {E = E} told (outcome.Entered p) old new slots slots' =
    (new.guest ≡ None) × (new.to_come ≡ old.to_come) × (new.gone ≡ old.gone) × (p < length slots) × (slot_at slots p ≡ None)
    × (seat : Seat (Gathered E) (Outbox E)) × IsUntouched seat × (slots' ≡ slice_set slots p (Some seat))
Enters told outcome.Away old new slots slots' = (new.guest ≡ None) × (new.to_come ≡ old.to_come) × (new.gone ≡ old.gone) × (slots' ≡ slots)
Enters told outcome.Wanting old new slots slots' = Stays old new × (new.gone ≡ old.gone) × (slots' ≡ slots) × IsPutOff told old new slots
Enters told _ old new slots slots' = ⊥
