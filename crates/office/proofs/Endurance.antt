-- What a crash may leave after several calls.
use Rattle.std.proofs.Common.{◌≡◌, ◌∙◌, ℕ, ◌⊎◌, ⊎_elim, inl, inr, Result, Ok, Err, refl, sym, subst}
use Rattle.std.specs.Prelude.{◌≢◌, IfErr, OnErr}
use Rattle.sigtext.specs.declared.refusal.Refusal.{Refusal}
use Rattle.sigtext.specs.declared.refusal.Refusal.TheVariants as rule
use Rattle.sigtext.specs.Request.{Request}
use Rattle.boxes.specs.State.{State}
use Rattle.wire.specs.declared.answer.Answer.{Answer}
use Rattle.wire.specs.declared.answer.Reply.{Reply}
use Rattle.boxes.specs.Bound.{StaysBy}
use Rattle.boxes.specs.Keeping.{LeavesEither}
use Rattle.boxes.specs.declared.keep.KeepFault.{KeepFault}
use Rattle.boxes.specs.declared.keep.Keeper.{Ghosts}
use Rattle.office.specs.declared.requests.commanding.DeskFault.{DeskFault}
use Rattle.office.specs.declared.requests.commanding.DeskFault.TheVariants as fault
use Rattle.office.specs.Crashes.{AddsStanding, AddsAsked, Lasts, changed, unchanged, LastsThrough, changed_once, never_changed, Endures, IsAsked, IsOneMore, RefusedLasts, Survives, no_change, some_change, UndoneLasts}
use Rattle.office.specs.Offices.{IsAnswered}
use Rattle.office.specs.Replying.{IsReplied}

joined : {A B C : Type 0} → (A → B ⊎ C) → A ⊎ C → B ⊎ C
joined f (inl a) = f a
joined f (inr c) = inr c

widened : {A B C : Type 0} → A ⊎ B → A ⊎ B ⊎ C
widened (inl a) = inl a
widened (inr b) = inr (inl b)

-- an earlier result was possible before, or is the current state
earlier : {A B S C : Type 0} → (A → B ⊎ S) → A ⊎ S ⊎ C → B ⊎ S ⊎ C
earlier f (inl a) = widened (f a)
earlier f (inr x) = inr x

-- an earlier result is one of these too
settled : {A B C : Type 0} → (A → B ⊎ C) → A ⊎ B ⊎ C → B ⊎ C
settled f (inl a) = f a
settled f (inr x) = x

asked_for : {A S C D : Type 0} → (C → D) → A ⊎ S ⊎ C → A ⊎ S ⊎ D
asked_for f (inl a) = inl a
asked_for f (inr (inl s)) = inr (inl s)
asked_for f (inr (inr c)) = inr (inr (f c))

one_more : {P Q : Request → ℕ → Type 0} {s : State} → ((r : Request) (now : ℕ) → P r now → Q r now) → (t : State) → IsOneMore P s t → IsOneMore Q s t
one_more f t x = record { request = x.request; moment = x.moment; was_given_up = f x.request x.moment x.was_given_up; asked = x.asked }

module _ {K : Type 0} {k : Ghosts K} where
  -- a question was asked
  pub asked_standing : {T : Type 0} {a b : K} {s : State} {result : Result T KeepFault} → StaysBy k a b result → k.means a s → k.is_honest b → AddsStanding k a b s
  asked_standing {s = s} rest means honest = record { adds = λ t at. rest.crash s t means honest at; whole = rest.whole s means honest }

  -- nothing was called
  pub still : {a : K} {s : State} → AddsStanding k a a s
  still = record { adds = λ t at. inl at; whole = λ w. w }

  pub then_adds : {a b c : K} {s : State} → AddsStanding k a b s → AddsStanding k b c s → AddsStanding k a c s
  then_adds x y = record { adds = λ t at. joined (x.adds t) (y.adds t at); whole = λ w. y.whole (x.whole w) }

  -- nothing new is a special case of what was asked for
  pub adds_less : {a b : K} {s : State} {D : State → Type 0} → AddsStanding k a b s → AddsAsked k a b s D
  adds_less x = record { adds = λ t at. widened (x.adds t at); whole = x.whole }

  pub then_asked : {a b c : K} {s : State} {D : State → Type 0} → AddsStanding k a b s → AddsAsked k b c s D → AddsAsked k a c s D
  then_asked x y = record { adds = λ t at. earlier (x.adds t) (y.adds t at); whole = λ w. y.whole (x.whole w) }

  pub of_either : {a b : K} {s after : State} {D : State → Type 0} → D after → LeavesEither k.leaves k.leaves_whole a b s after → AddsAsked k a b s D
  of_either {D = D} done x = record { adds = λ t at. asked_for (λ e. subst D (sym e) done) (x.either t at); whole = x.whole }

  pub more_asked : {a b : K} {s : State} {C D : State → Type 0} → ((t : State) → C t → D t) → AddsAsked k a b s C → AddsAsked k a b s D
  more_asked f x = record { adds = λ t at. asked_for (f t) (x.adds t at); whole = x.whole }

  then_lasts : {a b c : K} {s after : State} → AddsStanding k a b s → Lasts k b c s after → Lasts k a c s after
  then_lasts x (changed alone) = changed alone
  then_lasts x (unchanged same y) = unchanged same (then_adds x y)

  -- what survives one call survives several
  pub through : {a b : K} {s after : State} → Lasts k a b s after → LastsThrough k a b s after
  through (changed alone) = changed_once alone.alone alone.whole
  through (unchanged same adds) = never_changed same adds

  -- nothing was changed before
  pub through_after : {a b c : K} {s after : State} → AddsStanding k a b s → LastsThrough k b c s after → LastsThrough k a c s after
  through_after x (changed_once alone whole) = changed_once alone whole
  through_after x (never_changed same y) = never_changed same (then_adds x y)

  -- two lists of calls in a row
  pub then_through : {a b c : K} {s mid after : State} → LastsThrough k a b s mid → LastsThrough k b c mid after → LastsThrough k a c s after
  then_through x (changed_once alone whole) = changed_once alone whole
  then_through {after = after} (changed_once alone whole) (never_changed same y) =
      changed_once (λ t at. ⊎_elim (λ (was : k.leaves _ t). alone t was) (λ (is : t ≡ _). is) (y.adds t at) ∙ sym same) (y.whole whole)
  then_through {a = a} {b = b} {c = c} {s = s} {mid = mid} (never_changed first x) (never_changed same y) =
      never_changed (same ∙ first) (then_adds x (subst (λ (z : State). AddsStanding k b c z) first y))

  -- ---- if anything may have been given up

  then_asks : {a b c : K} {s : State} {D : State → Type 0} → AddsAsked k a b s D → AddsAsked k b c s D → AddsAsked k a c s D
  then_asks x y = record { adds = λ t at. joined (x.adds t) (y.adds t at); whole = λ w. y.whole (x.whole w) }

  -- nothing was changed, and nothing was given up
  pub survives_same : {P : Request → ℕ → Type 0} {a b : K} {s : State} → AddsStanding k a b s → Survives k a b P s s
  survives_same adds = no_change refl (adds_less adds)

  -- a message was given up
  pub survives_asked : {P : Request → ℕ → Type 0} {a b : K} {s : State} (r : Request) (now : ℕ) → P r now → AddsAsked k a b s (IsAsked s r now) → Survives k a b P s s
  survives_asked r now was asks = no_change refl (more_asked (λ t is. record { request = r; moment = now; was_given_up = was; asked = is }) asks)

  -- nothing was given up
  pub survives_through : {P : Request → ℕ → Type 0} {a b : K} {s after : State} → LastsThrough k a b s after → Survives k a b P s after
  survives_through (changed_once alone whole) = some_change (λ t at. inl (alone t at)) whole
  survives_through (never_changed same adds) = no_change same (adds_less adds)

  -- two lists of calls in a row
  pub then_survives : {P : Request → ℕ → Type 0} {a b c : K} {s mid after : State} → Survives k a b P s mid → Survives k b c P mid after → Survives k a c P s after
  then_survives x (some_change alone whole) = some_change alone whole
  then_survives {P = P} {a = a} {c = c} {s = s} (some_change alone whole) (no_change same y) =
      subst (λ (z : State). Survives k a c P s z) (sym same) (some_change (λ t at. settled (alone t) (y.adds t at)) (y.whole whole))
  then_survives {P = P} {b = b} {c = c} (no_change first x) (no_change same y) =
      no_change (same ∙ first) (then_asks x (subst (λ (z : State). AddsAsked k b c z (IsOneMore P z)) first y))

  -- what was given up is among these requests too
  pub survives_more : {P Q : Request → ℕ → Type 0} {a b : K} {s after : State} → ((r : Request) (now : ℕ) → P r now → Q r now) → Survives k a b P s after → Survives k a b Q s after
  survives_more {P = P} {Q = Q} f (some_change alone whole) = some_change (λ t at. either t (alone t at)) whole
    where
      either : {after : State} (t : State) → (t ≡ after) ⊎ IsOneMore P after t → (t ≡ after) ⊎ IsOneMore Q after t
      either t (inl is) = inl is
      either t (inr more) = inr (one_more f t more)
  survives_more f (no_change same y) = no_change same (more_asked (one_more f) y)

  -- ---- one call

  -- a question before the reply
  pub then_replied : {a b : K} (c : K) (s : State) (r : Request) (now : ℕ) (result : Result Reply Refusal) → AddsStanding k a b s
      → IsReplied (Endures k b c s) s r now result → IsReplied (Endures k a c s) s r now result
  then_replied c s r now (Ok x) adds is =
      let left = is.3 in
      (is.0, is.1, is.2, record { means = record { meant = left.means.meant; lasts = then_lasts adds left.means.lasts }; sound = left.sound }, is.4)
  then_replied c s r now (Err q) adds is = is

  -- a question before the answer
  pub then_answered : {a b : K} (c : K) (s : State) (r : Request) (now : ℕ) (answer : Answer) → AddsStanding k a b s
      → IsAnswered (Endures k b c s) s r now answer → IsAnswered (Endures k a c s) s r now answer
  then_answered c s r now answer adds is = λ other.
      let x = is other in
      (x.0, record { means = record { meant = x.1.means.meant; lasts = then_lasts adds x.1.means.lasts }; sound = x.1.sound }, x.2)

  -- a state that survives a crash is the one that the keeper means
  pub meant_only : {a b : K} (s : State) (r : Request) (now : ℕ) (answer : Answer) → IsAnswered (Endures k a b s) s r now answer → IsAnswered (k.means b) s r now answer
  meant_only s r now answer is = λ other. let x = is other in (x.0, record { means = x.1.means.meant; sound = x.1.sound }, x.2)

  pub then_refused : {T : Type 0} {a b : K} (c : K) (s : State) (r : Request) (now : ℕ) (result : Result T Refusal) → AddsStanding k a b s
      → RefusedLasts k b c s r now result → RefusedLasts k a c s r now result
  then_refused c s r now (Ok x) adds is = tt
  then_refused c s r now (Err q) adds is = (then_asked adds is.0, λ other. then_adds adds (is.1 other))

  -- the request was refused, and nothing was changed
  pub refused_same : {a b : K} {s : State} {r : Request} {now : ℕ} (q : Refusal) → AddsStanding k a b s
      → AddsAsked k a b s (IsAsked s r now) × ((q ≢ rule.TryAgain) → AddsStanding k a b s)
  refused_same q adds = (adds_less adds, λ other. adds)

  pub refused_adds : {T : Type 0} {a b : K} (s : State) (r : Request) (now : ℕ) (result : Result T Refusal) → AddsStanding k a b s
      → RefusedLasts k a b s r now result
  refused_adds s r now (Ok x) adds = tt
  refused_adds s r now (Err q) adds = refused_same q adds

  -- memory was refused, or the keeper failed
  pub refused_asked : {a b : K} {s : State} {r : Request} {now : ℕ} → AddsAsked k a b s (IsAsked s r now)
      → AddsAsked k a b s (IsAsked s r now) × ((rule.TryAgain ≢ rule.TryAgain) → AddsStanding k a b s)
  refused_asked asked = (asked, λ other. absurd (other refl))

  -- a change that was asked for was made, or it was not
  pub unset : {T : Type 0} {a b : K} (c : K) (s after : State) (r : Request) (now : ℕ) (result : Result T Refusal) → AddsStanding k a b s
      → OnErr result (LeavesEither k.leaves k.leaves_whole b c s after) → IfErr result (λ q. q ≡ rule.TryAgain) → IsAsked s r now after → RefusedLasts k a c s r now result
  unset c s after r now (Ok x) adds either again asked = tt
  unset c s after r now (Err q) adds either again asked = (then_asked adds (of_either asked either), λ other. absurd (other again))

pub undone_more : {T K : Type 0} (k : Ghosts K) (a b : K) (s : State) (C D : State → Type 0) (result : Result T DeskFault)
    → ((t : State) → C t → D t) → UndoneLasts k a b s C result → UndoneLasts k a b s D result
undone_more k a b s C D (Ok x) f is = tt
undone_more k a b s C D (Err fault.Malformed) f is = is
undone_more k a b s C D (Err fault.NotPossible) f is = is
undone_more k a b s C D (Err (fault.Kept g)) f is = more_asked f is
