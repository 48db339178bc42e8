-- What the clauses of a keeper come to if a crash left its state alone.
use Rattle.std.proofs.Common.{◌≡◌, ◌∙◌, ◌⊎◌, ⊎_elim, inl, inr, Result, refl, sym, subst, ℕ}
use Rattle.sigtext.specs.Request.{Request}
use Rattle.boxes.specs.State.{State}
use Rattle.boxes.specs.Bound.{StaysBy}
use Rattle.boxes.specs.declared.keep.KeepFault.{KeepFault}
use Rattle.boxes.specs.declared.keep.Keeper.{Ghosts}
use Rattle.office.specs.Crashes.{AddsAsked, AddsStanding, Lasts, LastsThrough, changed, changed_once, never_changed, unchanged, Survives, no_change, some_change}
use Rattle.office.specs.Crashes as crash
use Rattle.office.specs.Premise.{WasKept}
use Rattle.commands.specs.Asking.{Asked, IsLeftBy, nothing}
use Rattle.commands.specs.Listing.{Looks}
use Rattle.commands.specs.Working.{Passes, StandsAlone}

asked_or : {A B C : Type 0} → (A → B) → A ⊎ (B ⊎ C) → B ⊎ C
asked_or f (inl a) = inl (f a)
asked_or f (inr rest) = rest

module _ {K : Type 0} {k : Ghosts K} {old new : K} {s : State} (alone : StandsAlone k old s) where
  pub standing : AddsStanding k old new s → (t : State) → k.leaves new t → t ≡ s
  standing adds t left = ⊎_elim (alone.alone t) (λ (same : t ≡ s). same) (adds.adds t left)

  pub standing_whole : AddsStanding k old new s → k.leaves_whole new
  standing_whole adds = adds.whole alone.whole

  pub adding : {More : State → Type 0} → AddsAsked k old new s More → (t : State) → k.leaves new t → (t ≡ s) ⊎ More t
  adding adds t left = asked_or (alone.alone t) (adds.adds t left)

  -- what lasts is what a crash leaves
  pub lasting : {after : State} → Lasts k old new s after → (t : State) → k.leaves new t → t ≡ after
  lasting (changed only) t left = only.alone t left
  lasting (unchanged same adds) t left = standing adds t left ∙ sym same

  pub lasting_whole : {after : State} → Lasts k old new s after → k.leaves_whole new
  lasting_whole (changed only) = only.whole
  lasting_whole (unchanged same adds) = standing_whole adds

  pub surviving : {given_up : Request → ℕ → Type 0} {after : State} → Survives k old new given_up s after → (t : State) → k.leaves new t → (t ≡ after) ⊎ crash.IsOneMore given_up after t
  surviving (some_change leaves whole) t left = leaves t left
  surviving {given_up = given_up} (no_change same adds) t left = subst (λ (x : State). (t ≡ x) ⊎ crash.IsOneMore given_up x t) (sym same) (adding adds t left)

  pub surviving_whole : {given_up : Request → ℕ → Type 0} {after : State} → Survives k old new given_up s after → k.leaves_whole new
  surviving_whole (some_change leaves whole) = whole
  surviving_whole (no_change same adds) = adds.whole alone.whole

  -- what a crash leaves where several calls last
  pub through : {after : State} → LastsThrough k old new s after → (t : State) → k.leaves new t → t ≡ after
  through (changed_once only whole) t left = only t left
  through (never_changed same adds) t left = standing adds t left ∙ sym same

-- a crash leaves this state, whatever was asked
pub is_left : (asked : Asked) {s t : State} → t ≡ s → IsLeftBy asked s t
is_left asked same = record { left = inl same; lasts = λ none. same }

-- a keeper of which a crash leaves nothing new
pub stood : {K : Type 0} {k : Ghosts K} {old new : K} {Step : State → State → Asked → Type 0} → (k.is_honest new → k.is_honest old) → (k.is_alone old → k.is_alone new) → ((s : State) → k.means old s → k.means new s)
    → ((s : State) → k.means old s → k.is_honest new → AddsStanding k old new s) → ((s : State) → WasKept k old new s → Step s s nothing) → Passes k old new Step
stood honest ungrouped same adds step = record {
  honest = honest;
  ungrouped = ungrouped;
  lands = λ s kept alone. record {
    after = s;
    asked = nothing;
    left = record { means = same s kept.means; sound = kept.sound };
    step = step s kept;
    crash = λ t left. is_left nothing (standing alone (adds s kept.means kept.is_honest) t left);
    whole = standing_whole alone (adds s kept.means kept.is_honest);
  };
}

-- a keeper that was only asked
pub looked : {K T : Type 0} {k : Ghosts K} {old new : K} {Step : State → State → Asked → Type 0} (r : Result T KeepFault) → StaysBy k old new r
    → ((s : State) → WasKept k old new s → Step s s nothing) → Passes k old new Step
looked r stays step = stood stays.honest stays.group.alone stays.same (λ s means honest. record { adds = λ t left. stays.crash s t means honest left; whole = stays.whole s means honest }) step

pub looks : (s : State) → Looks s s nothing
looks s = record { same = refl; none = refl }

-- a keeper that was not called
pub unasked : {K : Type 0} {k : Ghosts K} {old new : K} {Step : State → State → Asked → Type 0} → new ≡ old → ((s : State) → Step s s nothing) → Passes k old new Step
unasked {k = k} {old = old} {new = new} same step = record {
  honest = subst k.is_honest same;
  ungrouped = subst k.is_alone (sym same);
  lands = λ s kept alone. record {
    after = s;
    asked = nothing;
    left = record { means = subst (λ x. k.means x s) (sym same) kept.means; sound = kept.sound };
    step = step s;
    crash = λ t left. is_left nothing (alone.alone t (subst (λ x. k.leaves x t) same left));
    whole = subst k.leaves_whole (sym same) alone.whole;
  };
}

-- another step, wherever the first one is made
pub more : {K : Type 0} {k : Ghosts K} {old new : K} {Step Next : State → State → Asked → Type 0}
    → ((s after : State) (asked : Asked) → Step s after asked → Next s after asked) → Passes k old new Step → Passes k old new Next
more further it = record {
  honest = it.honest;
  ungrouped = it.ungrouped;
  lands = λ s kept alone.
      let to = it.lands s kept alone in
      record { after = to.after; asked = to.asked; left = to.left; step = further s to.after to.asked to.step; crash = to.crash; whole = to.whole };
}

-- Around a keeper k there is a keeper l. It means what k means, and shows what k shows, before and after. If k is in no group
-- before, neither is l. If l is in none after, neither is k.
pub record Wraps {K L : Type 0} (k : Ghosts K) (l : Ghosts L) (old new : K) (outer outer' : L) : Type 0 where
  pub honest : k.is_honest new → l.is_honest outer'
  pub before : l.is_honest outer → k.is_honest old
  pub ungrouped : k.is_alone old → l.is_alone outer
  pub ungrouped_too : l.is_alone outer' → k.is_alone new
  pub means : (s : State) → k.means old s → l.is_honest outer' → l.means outer s
  pub within : (s : State) → l.means outer' s → k.means new s
  pub alone : (s : State) → k.means old s → l.is_honest outer → StandsAlone k old s → StandsAlone l outer s
  pub leaves : (t : State) → k.leaves new t → l.leaves outer' t
  pub whole : l.leaves_whole outer' → k.leaves_whole new

pub within : {K L : Type 0} {k : Ghosts K} {l : Ghosts L} {old new : K} {outer outer' : L} {Step : State → State → Asked → Type 0}
    → Wraps k l old new outer outer' → Passes l outer outer' Step → Passes k old new Step
within wraps it = record {
  honest = λ clean. wraps.before (it.honest (wraps.honest clean));
  ungrouped = λ alone. wraps.ungrouped_too (it.ungrouped (wraps.ungrouped alone));
  lands = λ s kept alone.
      let clean = wraps.honest kept.is_honest in
      let to = it.lands s (record { means = wraps.means s kept.means clean; is_honest = clean; sound = kept.sound }) (wraps.alone s kept.means (it.honest clean) alone) in
      record {
        after = to.after;
        asked = to.asked;
        left = record { means = wraps.within to.after to.left.means; sound = to.left.sound };
        step = to.step;
        crash = λ t left. to.crash t (wraps.leaves t left);
        whole = wraps.whole to.whole;
      };
}
