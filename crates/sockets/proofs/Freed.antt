-- Slots that are free, or become free.
use Rattle.std.proofs.Common.{⊎_elim, ◌≡◌, ◌≤◌, ◌↔◌, Bool, true, false, ◌<◌, ◌+◌, ◌++◌, ◌⊎◌, ◌∙◌, ap, inl, inr, length, slice_set, subst, sym, Some, ℕ, suc, zero, List, [], ◌∷◌, Option, None, refl, arith}
use Rattle.std.specs.Prelude.{IfSome}
use Rattle.std.proofs.lemmas.Bool.{cases_lt}
use Rattle.wire.specs.Crowds.{SentAt, slot_at}
use Rattle.wire.specs.Seats.{Sends}
use Rattle.wire.specs.Slots.{SendsOn}
use Rattle.wire.specs.Feeds.{ahead_of}
use Rattle.wire.specs.Gathering.{HasFailed, ahead_in}
use Rattle.wire.specs.Outgoing.{waits_out}
use Rattle.wire.specs.declared.seat.Seat.{Seat}
use Rattle.wire.specs.declared.gathered.Gathered.{Gathered}
use Rattle.wire.specs.declared.outbox.Outbox.{Outbox}
use Rattle.wire.specs.declared.outbox.Sending.{Sending}
use Rattle.wire.specs.declared.outbox.Sending.TheVariants as sending
use Rattle.sockets.specs.Accepting.{IsSettled, IsThrough, MayGo}

-- if one more can't be counted, the count is at its limit
pub no_more : (n : ℕ) (may : Bool) → may ≡ true ↔ (n < 18446744073709551615) → may ≡ false → 18446744073709551615 ≤ n
no_more n may tells is = ⊎_elim (λ (lt : n < 18446744073709551615). absurd (cc (tells.1 lt, is))) (λ (le : 18446744073709551615 ≤ n). le) (cases_lt n 18446744073709551615)

-- one more is free
pub free_more : {X : Type 0} (slots : List (Option X)) → ((p : ℕ) → slot_at slots p ≡ None) → (p : ℕ) → slot_at (slots ++ None ∷ []) p ≡ None
free_more [] all zero = refl
free_more [] all (suc p) = refl
free_more (x ∷ slots) all zero = all zero
free_more (x ∷ slots) all (suc p) = free_more slots (λ q. all (suc q)) p

module _ {X : Type 0} where
  -- the slot holds what was put there
  pub set_there : (slots : List (Option X)) (p : ℕ) (x : Option X) → p < length slots → slot_at (slice_set slots p x) p ≡ x
  set_there [] p x lt = absurd (omega (arith, lt))
  set_there (y ∷ slots) zero x lt = refl
  set_there (y ∷ slots) (suc p) x lt = set_there slots p x (omega (arith, lt))

  -- the slot holds what was put there last
  pub set_again : (slots : List (Option X)) (p : ℕ) (x y : Option X) → slice_set (slice_set slots p x) p y ≡ slice_set slots p y
  set_again [] p x y = refl
  set_again (z ∷ slots) zero x y = refl
  set_again (z ∷ slots) (suc p) x y = ap (λ l. z ∷ l) (set_again slots p x y)

  pub set_length : (slots : List (Option X)) (p : ℕ) (x : Option X) → length (slice_set slots p x) ≡ length slots
  set_length [] p x = refl
  set_length (y ∷ slots) zero x = refl
  set_length (y ∷ slots) (suc p) x = omega (arith, set_length slots p x)

-- nothing is left of an empty list
nothing_left : (xs ys : List ℕ) → [] ≡ xs ++ ys → ys ≡ []
nothing_left [] ys is = sym is
nothing_left (x ∷ xs) ys is = absurd cc

-- a connection that was through is still through after bytes were sent
still_through : {E : Type 0} (given : Outbox E → Option (List ℕ)) (contents : E → Option (List ℕ)) (outcome : Sending) (a b : Seat (Gathered E) (Outbox E)) → Sends given a b → SendsOn contents a b outcome
    → IsThrough a → IsThrough b
still_through given contents outcome a b sends on was = record {
  idle = λ is_open.
      let idle = was.idle (sym sends.end ∙ is_open) in
      record {
        between = sends.underway ∙ idle.between;
        untaken = subst (λ s. ahead_of s ≡ []) (sym sends.standing) idle.untaken;
        unread = subst (λ r. ahead_in r.inner ≡ []) (sym sends.reader) idle.unread;
        unsent = nothing_left on.takes.0 (waits_out b.writer.inner) (sym idle.unsent ∙ on.takes.1);
        reads = λ failed. idle.reads (subst (λ r. HasFailed r.inner) sends.reader failed);
      };
  failed = λ is. subst (λ r. HasFailed r.inner) (sym sends.reader) (was.failed (sym sends.end ∙ is));
}

module _ {E : Type 0} (given : Outbox E → Option (List ℕ)) (contents : E → Option (List ℕ)) (outcome : Sending) (told : Type 0) (old new : List (Option (Seat (Gathered E) (Outbox E)))) (p : ℕ)
    (sent : SentAt given (λ a b. SendsOn contents a b outcome) told old new p) where
  -- the number of slots is unchanged
  pub sent_length : length new ≡ length old
  sent_length = elim sent [
    | inl x ↦ ap length x.5 ∙ set_length old p (Some x.2)
    | inr x ↦ ap length x.1
  ]

  -- the slot is freed as if nothing had been sent
  pub sent_free : (free : List (Option (Seat (Gathered E) (Outbox E)))) → free ≡ slice_set new p None → free ≡ slice_set old p None
  sent_free free is = elim sent [
    | inl x ↦ is ∙ (ap (λ l. slice_set l p None) x.5 ∙ set_again old p (Some x.2) None)
    | inr x ↦ is ∙ ap (λ l. slice_set l p None) x.1
  ]

  -- If no bytes wait any more, or a write failed, the connection may go, provided that it was through.
  pub sent_may_go : (outcome ≡ sending.Sent) ⊎ (outcome ≡ sending.Failed) → p < length old → IfSome (slot_at old p) (λ seat. IsThrough seat) → IfSome (slot_at new p) (λ seat. MayGo seat)
  sent_may_go is lt through = elim sent [
    | inl x ↦
        let at : slot_at new p ≡ Some x.2 = ap (λ l. slot_at l p) x.5 ∙ set_there old p (Some x.2) lt in
        let settled : IsSettled x.2 = elim is [ inl e ↦ inl ((x.4.sent.0 e).0) | inr e ↦ inr (x.4.failed.0 e) ] in
        let was : IsThrough x.0 = subst (λ o. IfSome o (λ seat. IsThrough seat)) x.1 through in
        subst (λ o. IfSome o (λ seat. MayGo seat)) (sym at) (record { settled = settled; through = still_through given contents outcome x.0 x.2 x.3 x.4 was })
    | inr x ↦ subst (λ o. IfSome o (λ seat. MayGo seat)) (sym (ap (λ l. slot_at l p) x.1 ∙ x.0)) tt
  ]

-- if bytes still wait, a connection is there
pub sent_waits : {E : Type 0} (given : Outbox E → Option (List ℕ)) (contents : E → Option (List ℕ)) (outcome : Sending) (old new : List (Option (Seat (Gathered E) (Outbox E)))) (p : ℕ)
    → outcome ≡ sending.Waits → SentAt given (λ a b. SendsOn contents a b outcome) (outcome ≡ sending.Sent) old new p → SentAt given (λ a b. SendsOn contents a b sending.Waits) ⊥ old new p
sent_waits given contents outcome old new p is (inl x) = inl (x.0, x.1, x.2, x.3, subst (λ o. SendsOn contents x.0 x.2 o) is x.4, x.5)
sent_waits given contents outcome old new p is (inr x) = absurd (cc (is, x.2))
