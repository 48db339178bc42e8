-- Several changes of slots in order.
use Rattle.std.proofs.Common.{⊎_elim, ◌≡◌, ◌<◌, ℕ, true, false, inl, inr, refl, List, [], ◌∷◌, ◌++◌, ◌+◌, Option, None, Some, length, get_or, set, subst, ap, ◌∙◌, sym, append_assoc, arith}
use Rattle.std.specs.Prelude.{is_some}
use Rattle.std.proofs.lemmas.Bool.{cases_eq}
use Rattle.std.proofs.lemmas.List.{append-nil, get_or_default, get_or-set_other, get_or-set_same, length_push, set-get_or}
use Rattle.wire.specs.Crowds.{AreAmong, Changes, DoneAt, IsOpenAt, SentAt, number_of, numbers_after, slot_at, those_of}
use Rattle.wire.specs.Crowds as crowd
use Rattle.wire.specs.Seats.{Gathers, IsNew, Sends}
use Rattle.wire.specs.declared.seat.Seat.{Seat}
use Rattle.wire.specs.declared.session.SessionEnd.{SessionEnd}
use Rattle.wire.proofs.Ends.{none_of}
use Rattle.wire.proofs.Ties.{none_is, number_here, number_there, some_is}

-- another connection, or none, takes the place of one that came
pub among_set : {X : Type 0} (slots : List (Option X)) (p : ℕ) (v : Option X) (numbers : ℕ → ℕ) (n : ℕ) → p < length slots → ((x : X) → v ≡ Some x → numbers p < n) → AreAmong numbers n slots → AreAmong numbers n (set slots p v)
among_set slots p v numbers n lt here h q x at =
    ⊎_elim
    (λ (e : q ≡ p). let is = here x (sym (get_or-set_same slots p v None lt) ∙ ap (slot_at (set slots p v)) (sym e) ∙ at) in subst (λ (m : ℕ). numbers m < n) (sym e) is)
    (λ (ne : q ≡ p → ⊥). h q x (sym (get_or-set_other slots p q v None ne) ∙ at))
    (cases_eq q p)

module _ {R W : Type 0} (remaining : R → Option (List ℕ)) (contents : W → Option (List ℕ)) where
  -- some changes followed by others
  pub changes_then : (a b c : List (Option (Seat R W))) (came gone more went : List (Seat R W)) → Changes remaining contents a b came gone → Changes remaining contents b c more went
      → Changes remaining contents a c (came ++ more) (gone ++ went)
  changes_then a b _ came gone _ _ first crowd.same =
      subst (λ l. Changes remaining contents a b l (gone ++ [])) (sym (append-nil came)) (subst (λ l. Changes remaining contents a b came l) (sym (append-nil gone)) first)
  changes_then a b _ came gone _ _ first (crowd.comes now more went p new before lt free is) =
      subst (λ l. Changes remaining contents a (set now p (Some new)) l (gone ++ went)) (append_assoc came more (new ∷ []))
      (crowd.comes now (came ++ more) (gone ++ went) p new (changes_then a b now came gone more went first before) lt free is)
  changes_then a b _ came gone _ _ first (crowd.gathers now more went p seat new before lt at is_open g) =
      crowd.gathers now (came ++ more) (gone ++ went) p seat new (changes_then a b now came gone more went first before) lt at is_open g
  changes_then a b _ came gone _ _ first (crowd.sends now more went p seat new before lt at g) =
      crowd.sends now (came ++ more) (gone ++ went) p seat new (changes_then a b now came gone more went first before) lt at g
  changes_then a b _ came gone _ _ first (crowd.goes now more went p seat before lt at) =
      subst (λ l. Changes remaining contents a (set now p None) (came ++ more) l) (append_assoc gone went (seat ∷ []))
      (crowd.goes now (came ++ more) (gone ++ went) p seat (changes_then a b now came gone more went first before) lt at)

  -- ---- the connections in the slots

  -- after the changes, too, each connection in the slots is one of those that came
  pub among_after : (a b : List (Option (Seat R W))) (came gone : List (Seat R W)) (n : ℕ) (numbers : ℕ → ℕ) (x : Changes remaining contents a b came gone)
      → AreAmong numbers n a → AreAmong (numbers_after x n numbers) (n + length came) b
  among_after a _ _ _ n numbers crowd.same h = λ p x at. let was = h p x at in omega (arith, was)
  among_after a _ _ _ n numbers (crowd.comes now came gone p new before lt free is_new) h =
      let was = among_after a now came gone n numbers before h in
      λ q x at. ⊎_elim
      (λ (e : q ≡ p). omega (arith, number_here p (n + length came) (numbers_after before n numbers) q e, length_push came new))
      (λ (ne : q ≡ p → ⊥).
      let before_this = was q x (sym (get_or-set_other now p q (Some new) None ne) ∙ at) in
      omega (arith, number_there p (n + length came) (numbers_after before n numbers) q ne, before_this, length_push came new))
      (cases_eq q p)
  among_after a _ _ _ n numbers (crowd.gathers now came gone p seat new before lt at is_open g) h =
      among_set now p (Some new) (numbers_after before n numbers) (n + length came) lt (λ y is. among_after a now came gone n numbers before h p seat at) (among_after a now came gone n numbers before h)
  among_after a _ _ _ n numbers (crowd.sends now came gone p seat new before lt at g) h =
      among_set now p (Some new) (numbers_after before n numbers) (n + length came) lt (λ y is. among_after a now came gone n numbers before h p seat at) (among_after a now came gone n numbers before h)
  among_after a _ _ _ n numbers (crowd.goes now came gone p seat before lt at) h =
      among_set now p None (numbers_after before n numbers) (n + length came) lt (λ y is. among_after a now came gone n numbers before h p seat at) (among_after a now came gone n numbers before h)

  -- after the turn of an open connection, too
  pub among_turned : (a b c : List (Option (Seat R W))) (came gone : List (Seat R W)) (n m : ℕ) (numbers : ℕ → ℕ) (x : Changes remaining contents a b came gone) (p : ℕ) (v : Option (Seat R W))
      → n + length came ≡ m → IsOpenAt b p → c ≡ set b p v → AreAmong numbers n a → AreAmong (numbers_after x n numbers) m c
  among_turned a b c came gone n m numbers x p v sum due is h =
      let now = among_after a b came gone n numbers x h in
      subst (λ k. AreAmong (numbers_after x n numbers) k c) sum
      (subst (λ l. AreAmong (numbers_after x n numbers) (n + length came) l) (sym is)
      (among_set b p v (numbers_after x n numbers) (n + length came) due.0 (λ y at. now p due.1 due.2) now))

  -- a connection comes into the slot that was read at an index
  pub by_comes : (a : List (Option (Seat R W))) (p : ℕ) (d : Option (Seat R W)) (new : Seat R W) → p < length a → get_or a p d ≡ None → IsNew new → Changes remaining contents a (set a p (Some new)) (new ∷ []) []
  by_comes a p d new lt free is = crowd.comes a [] [] p new crowd.same lt (get_or_default a p None d lt ∙ free) is

  -- the slot is freed
  pub by_goes : (a : List (Option (Seat R W))) (p : ℕ) (d there : Option (Seat R W)) → p < length a → get_or a p d ≡ there → Changes remaining contents a (set a p None) [] (those_of there)
  by_goes a p d None lt at =
      subst (λ l. Changes remaining contents a l [] []) (sym (ap (set a p) (sym at) ∙ set-get_or a p d)) crowd.same
  by_goes a p d (Some seat) lt at = crowd.goes a [] [] p seat crowd.same lt (get_or_default a p None d lt ∙ at)

  -- the content of the slot is unchanged
  pub by_kept : (a : List (Option (Seat R W))) (p : ℕ) (d : Option (Seat R W)) → Changes remaining contents a (set a p (get_or a p d)) [] []
  by_kept a p d = subst (λ l. Changes remaining contents a l [] []) (sym (set-get_or a p d)) crowd.same

  -- what was done to the open connection in the slot is such a change
  pub by_done : (done : Seat R W → Seat R W → Type 0) (told : Type 0) (a b : List (Option (Seat R W))) (p : ℕ) → p < length a → DoneAt remaining done told a b p → Changes remaining contents a b [] []
  by_done done told a b p lt (inl (seat, at, is_open, after, g, so, new)) =
      subst (λ l. Changes remaining contents a l [] []) (sym new) (crowd.gathers a [] [] p seat after crowd.same lt at is_open g)
  by_done done told a b p lt (inr (none, same, is)) = subst (λ l. Changes remaining contents a l [] []) (sym same) crowd.same

  pub by_sent : (done : Seat R W → Seat R W → Type 0) (told : Type 0) (a b : List (Option (Seat R W))) (p : ℕ) → p < length a → SentAt contents done told a b p → Changes remaining contents a b [] []
  by_sent done told a b p lt (inl (seat, at, after, g, so, new)) =
      subst (λ l. Changes remaining contents a l [] []) (sym new) (crowd.sends a [] [] p seat after crowd.same lt at g)
  by_sent done told a b p lt (inr (none, same, is)) = subst (λ l. Changes remaining contents a l [] []) (sym same) crowd.same

module _ {R W : Type 0} (remaining : R → Option (List ℕ)) (done : Seat R W → Seat R W → Type 0) (told : Type 0) (a : List (Option (Seat R W))) (p : ℕ) (d : Option (Seat R W)) (lt : p < length a)
    (seat : Seat R W) (at : get_or a p d ≡ Some seat) (end : Option SessionEnd) (is_end : end ≡ seat.end) where
  -- it was done to the open connection there
  pub done_there : is_some end ≡ false → (after : Seat R W) → Gathers remaining seat after → done seat after → DoneAt remaining done told a (set a p (Some after)) p
  done_there is_open after g so = inl (seat, get_or_default a p None d lt ∙ at, sym is_end ∙ none_of end is_open, after, g, so, refl)

  -- the connection there has ended
  pub done_to_ended : is_some end ≡ true → (b : List (Option (Seat R W))) → b ≡ set a p (Some seat) → told → DoneAt remaining done told a b p
  done_to_ended over b kept is = inr (
    λ other there is_open.
        let same : other ≡ seat = some_is other seat (sym there ∙ get_or_default a p None d lt ∙ at) in
        let none : is_some end ≡ false = ap is_some (is_end ∙ sym (ap (λ (x : Seat R W). x.end) same) ∙ is_open) in
        absurd cc,
    kept ∙ ap (set a p) (sym at) ∙ set-get_or a p d,
    is,
  )

-- there is no connection
pub done_to_none : {R W : Type 0} (remaining : R → Option (List ℕ)) (done : Seat R W → Seat R W → Type 0) (told : Type 0) (a b : List (Option (Seat R W))) (p : ℕ) (d : Option (Seat R W)) → p < length a
    → get_or a p d ≡ None → b ≡ set a p (get_or a p d) → told → DoneAt remaining done told a b p
done_to_none remaining done told a b p d lt free kept is =
    inr (λ other there is_open. none_is other (sym free ∙ sym (get_or_default a p None d lt) ∙ there), kept ∙ set-get_or a p d, is)

-- what was written to the connection there was sent
pub sent_there : {R W : Type 0} (contents : W → Option (List ℕ)) (done : Seat R W → Seat R W → Type 0) (told : Type 0) (a : List (Option (Seat R W))) (p : ℕ) (d : Option (Seat R W)) → p < length a
    → (seat after : Seat R W) → get_or a p d ≡ Some seat → Sends contents seat after → done seat after → SentAt contents done told a (set a p (Some after)) p
sent_there contents done told a p d lt seat after at g so = inl (seat, get_or_default a p None d lt ∙ at, after, g, so, refl)

-- there is no connection
pub sent_to_none : {R W : Type 0} (contents : W → Option (List ℕ)) (done : Seat R W → Seat R W → Type 0) (told : Type 0) (a b : List (Option (Seat R W))) (p : ℕ) (d : Option (Seat R W)) → p < length a
    → get_or a p d ≡ None → b ≡ set a p (get_or a p d) → told → SentAt contents done told a b p
sent_to_none contents done told a b p d lt free kept is = inr (get_or_default a p None d lt ∙ free, kept ∙ set-get_or a p d, is)
