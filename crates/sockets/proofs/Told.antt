-- What is told of a connection that is let in, and of a read.
use Rattle.std.proofs.Common.{◌≡◌, ◌≤◌, ◌↔◌, ◌<◌, ◌-◌, ◌⊎◌, ◌∙◌, ◌++◌, ◌∷◌, [], Bool, true, false, ap, inl, inr, length, subst, sym, ℕ, List, Option, Some, None, Result, Ok, Err, refl, arith}
use Rattle.std.specs.Prelude.{IfNone, IfSome, is_some}
use Rattle.std.proofs.lemmas.List.{length-append}
use Rattle.std.specs.declared.io.Error.{Error}
use Rattle.wire.specs.Crowds.{DoneAt, NoneIsFree, slot_at}
use Rattle.wire.specs.Slots.{ReadsAhead}
use Rattle.wire.specs.declared.seat.Seat.{Seat}
use Rattle.wire.specs.Gathering.{Gathers, ahead_in}
use Rattle.wire.specs.declared.gathered.Gathered.{Gathered}
use Rattle.wire.specs.declared.gathered.Gathering.{Gathering}
use Rattle.wire.specs.declared.gathered.Gathering.TheVariants as gathering
use Rattle.wire.specs.declared.outbox.Outbox.{Outbox}
use Rattle.sockets.specs.Doing.{ReadsAsMuch}
use Rattle.sockets.specs.Listening.{Event, IsWant, unready}
use Rattle.sockets.specs.Telling.{Enters, Tells}
use Rattle.sockets.specs.declared.actions.Outcome.{Outcome}
use Rattle.sockets.specs.declared.actions.Outcome.TheVariants as outcome
use Rattle.sockets.specs.declared.gate.Gate.{Gate}
use Rattle.sockets.proofs.Freed.{set_there}

-- a connection that is handed back keeps waiting, and one that is not waits no more
pub put_off_so : {L S E : Type 0} (told : L → List (Event S E) → Type 0) (g h : Gate L S) (says : Outcome) (stream : S) (back free : Option S) (e : Error) (slots : List (Option (Seat (Gathered E) (Outbox E))))
    → g.guest ≡ Some stream → IfSome back (λ x. x ≡ stream) → ((says ≡ outcome.Wanting) × (x : S) × (back ≡ Some x) × IsWant e × (h.guest ≡ Some x)) ⊎ ((says ≡ outcome.Away) × ((back ≡ None) ⊎ (IsWant e → ⊥)) × (h.guest ≡ free))
    → free ≡ None → h.to_come ≡ g.to_come → h.came ≡ g.came → h.gone ≡ g.gone → Tells told g.listener h.listener (unready back e ∷ []) → Enters told says g h slots slots
put_off_so told g h says stream back free e slots waits is (inl x) none to_come came gone tells =
    let it : back ≡ g.guest = x.2 ∙ (ap Some (subst (λ o. IfSome o (λ y. y ≡ stream)) x.2 is) ∙ sym waits) in
    subst (λ t. Enters told t g h slots slots) (sym x.0)
    ((x.4 ∙ (sym x.2 ∙ it), to_come, came), gone, refl, inr (inr (inr (e, x.3, λ log was. subst (λ b. told h.listener (log ++ unready b e ∷ [])) it (tells log was)))))
put_off_so told g h says stream back free e slots waits is (inr x) none to_come came gone tells = subst (λ t. Enters told t g h slots slots) (sym x.0) (x.2 ∙ none, to_come, gone, refl)

-- a read ahead loses no byte
never_less : {E T : Type 0} (remaining : E → Option (List ℕ)) (old new : Gathered E) (result : Result Gathering T) → Gathers remaining old new result → length (ahead_in old) ≤ length (ahead_in new)
never_less remaining old new (Ok gathering.Came) x = omega (arith, ap length x.2, length-append (ahead_in old) x.0)
never_less remaining old new (Ok gathering.Ended) x = omega (arith, ap length x.0)
never_less remaining old new (Ok gathering.Waits) x = omega (arith, ap length x.0)
never_less remaining old new (Ok gathering.Failed) x = omega (arith, ap length x.0)
never_less remaining old new (Err e) x = omega (arith, ap length x.0)

-- the result tells whether as many bytes came as possible, by how many more are ahead
pub reads_so : {E T : Type 0} (left : Gathered E → Option (List ℕ)) (remaining : E → Option (List ℕ)) (outcome : Result Gathering T) (none : Type 0) (is_full : Bool) (n m before after : ℕ)
    (old new : List (Option (Seat (Gathered E) (Outbox E)))) (p : ℕ) → p < length old → n ≡ m → DoneAt left (λ a b. ReadsAhead remaining n a b outcome) none old new p
    → IfSome (slot_at old p) (λ s. before ≡ length (ahead_in s.reader.inner)) → IfSome (slot_at new p) (λ s. after ≡ length (ahead_in s.reader.inner)) → is_full ≡ true ↔ (m ≤ after - before)
    → DoneAt left (λ a b. ReadsAsMuch remaining m a b outcome is_full) none old new p
reads_so left remaining outcome none is_full n m before after old new p lt same (inl (seat, at, open_still, b, gathers, reads, is)) was now told =
    let first : before ≡ length (ahead_in seat.reader.inner) = subst (λ o. IfSome o (λ s. before ≡ length (ahead_in s.reader.inner))) at was in
    let there : slot_at new p ≡ Some b = subst (λ l. slot_at l p ≡ Some b) (sym is) (set_there old p (Some b) lt) in
    let then : after ≡ length (ahead_in b.reader.inner) = subst (λ o. IfSome o (λ s. after ≡ length (ahead_in s.reader.inner))) there now in
    inl (seat, at, open_still, b, gathers, record { reads = subst (λ k. ReadsAhead remaining k seat b outcome) same reads; full = (λ full. omega (arith, told.0 full, first, then, same, reads.most, never_less remaining seat.reader.inner b.reader.inner outcome reads.told), λ as_many. told.1 (omega (arith, first, then, as_many))) }, is)
reads_so left remaining outcome none is_full n m before after old new p lt same (inr x) was now told = inr x

-- if there is no first free slot, no slot is free
pub none_free : {X : Type 0} (found : Option ℕ) (slots : List (Option X)) → is_some found ≡ false → IfNone found (NoneIsFree slots (length slots)) → NoneIsFree slots (length slots)
none_free None slots is free = free
none_free (Some n) slots is free = absurd cc

pub one_free : {X : Type 0} (found : Option ℕ) (slots : List (Option X)) → is_some found ≡ true → IfSome found (λ p. (p < length slots) × (slot_at slots p ≡ None)) → (p : ℕ) × (p < length slots) × (slot_at slots p ≡ None)
one_free None slots is free = absurd cc
one_free (Some n) slots is free = (n, free.0, free.1)
