-- Several calls of a keeper that leave the state unchanged, and what they leave staged.
use Rattle.std.proofs.Common.{◌≡◌, ◌≤◌, Bool, true, false, [], ◌⊎◌, ⊎_elim, inl, inr, Result, Ok, Err, refl, arith}
use Rattle.std.specs.Prelude.{IsFalse, IsTrue, OnErr, OnOk}
use Rattle.std.specs.Result.{is_err}
use Rattle.sigtext.specs.Counts.{CountsErrors, Rose}
use Rattle.sigtext.specs.declared.refusal.Refusal.{Refusal}
use Rattle.boxes.specs.Bound.{StaysBy}
use Rattle.boxes.specs.Keeping.{KeepsGroup, KeepsStaged}
use Rattle.boxes.specs.declared.keep.KeepFault.{KeepFault}
use Rattle.boxes.specs.declared.keep.Keeper.{Ghosts}
use Rattle.office.specs.Frames.{Looks, Quiet}
use Rattle.office.specs.Premise.{EndsUnstaged, HoldsUnless, IsFault, IsGivenUp, StaysUnstaged}
use Rattle.office.proofs.Endurance.{asked_standing, still, then_adds}
use Rattle.office.proofs.Holding.{given_up_too, holds_less, holds_still, holds_then}
use Rattle.office.proofs.Unstaged.{asked_holds, ends_before, ends_later, failed_holds, rose_least, then_holds}

-- a property of a call without an error
pub on_ok : {T E : Type 0} (P : Type 0) (b : Bool) (result : Result T E) → b ≡ is_err result → b ≡ false → OnOk result P → P
on_ok P b (Ok x) is false_is holds = holds
on_ok P b (Err e) is false_is holds = absurd cc

-- a call with an error is one of the keeper's faults
pub is_fault : {T : Type 0} (b : Bool) (result : Result T KeepFault) → b ≡ is_err result → b ≡ true → IsFault result
is_fault b (Ok x) is true_is = absurd cc
is_fault b (Err e) is true_is = tt

-- a property of a call with an error
pub on_err : {T E : Type 0} (P : Type 0) (b : Bool) (result : Result T E) → b ≡ is_err result → b ≡ true → OnErr result P → P
on_err P b (Ok x) is true_is holds = absurd cc
on_err P b (Err e) is true_is holds = holds

-- what holds in any case
pub on_err_too : {T E : Type 0} {P : Type 0} (result : Result T E) → P → OnErr result P
on_err_too (Ok x) holds = tt
on_err_too (Err e) holds = holds

-- ---- calls that leave the state

module _ {K : Type 0} {k : Ghosts K} where
  -- a question, whatever its answer
  pub called_holds : {T : Type 0} {a b : K} (result : Result T KeepFault) → StaysBy k a b result → HoldsUnless k a b (IsFault result)
  called_holds {a = a} {b = b} (Ok x) rest = asked_holds k a b x rest
  called_holds {a = a} {b = b} (Err f) rest = failed_holds k a b f rest tt

  pub quiet_asked : {T : Type 0} {a b : K} (result : Result T KeepFault) → StaysBy k a b result → Quiet k a b (IsFault result)
  quiet_asked result rest = record { same = rest.same; crash = λ s means honest. asked_standing rest means honest; rest = called_holds result rest }

  -- a change, whatever its result
  pub changed_holds : {T : Type 0} {a b : K} (result : Result T KeepFault) → (k.is_honest b → k.is_honest a) → (k.is_honest b → OnOk result (k.is_open b)) → CountsErrors (k.faults a) (k.faults b) result
      → KeepsGroup k.is_alone k.gathers a b → HoldsUnless k a b (IsFault result)
  changed_holds (Ok x) honest opened count group = record { honest = honest; opened = λ is was other. opened is; counted = λ other. count.ok; never_less = let same = count.ok in omega (arith, same); group = group }
  changed_holds {a = a} {b = b} (Err f) honest opened count group = record { honest = honest; opened = λ is was other. absurd (other tt); counted = λ other. absurd (other tt); never_less = rose_least (k.faults a) (k.faults b) count.err; group = group }

  pub quiet_less : {a b : K} {gave_up more : Type 0} → (gave_up → more) → Quiet k a b gave_up → Quiet k a b more
  quiet_less less x = record { same = x.same; crash = x.crash; rest = holds_less less x.rest }

  -- nothing was called
  pub quiet_still : {a : K} {gave_up : Type 0} → Quiet k a a gave_up
  quiet_still = record { same = λ s means. means; crash = λ s means honest. still; rest = holds_still }

  -- a question that was answered, and one that failed
  pub quiet_answered : {T : Type 0} {a b : K} {x : T} {gave_up : Type 0} → StaysBy k a b (Ok x) → Quiet k a b gave_up
  quiet_answered {a = a} {b = b} {x = x} rest = record { same = rest.same; crash = λ s means honest. asked_standing rest means honest; rest = asked_holds k a b x rest }

  pub quiet_failed : {T : Type 0} {a b : K} {f : KeepFault} {gave_up : Type 0} → StaysBy {T = T} k a b (Err f) → gave_up → Quiet k a b gave_up
  quiet_failed {a = a} {b = b} {f = f} rest is = record { same = rest.same; crash = λ s means honest. asked_standing rest means honest; rest = failed_holds k a b f rest is }

  pub quiet_then : {a b c : K} {gave_up : Type 0} → Quiet k a b ⊥ → Quiet k b c gave_up → Quiet k a c gave_up
  quiet_then x y = record {
    same = λ s means. y.same s (x.same s means);
    crash = λ s means honest. then_adds (x.crash s means (y.rest.honest honest)) (y.crash s (x.same s means) honest);
    rest = holds_then x.rest y.rest;
  }

  -- two calls in a row that each may have given up
  pub quiet_via : {a b c : K} {one other both : Type 0} → Quiet k a b one → Quiet k b c other → ((both → ⊥) → one → ⊥) → ((both → ⊥) → other → ⊥) → Quiet k a c both
  quiet_via x y f g = record {
    same = λ s means. y.same s (x.same s means);
    crash = λ s means honest. then_adds (x.crash s means (y.rest.honest honest)) (y.crash s (x.same s means) honest);
    rest = then_holds x.rest y.rest f g;
  }

  -- one of two calls may have given up
  pub quiet_both : {a b c : K} {one other : Type 0} → Quiet k a b one → Quiet k b c other → Quiet k a c (one ⊎ other)
  quiet_both x y = quiet_via x y (λ none gave_up. none (inl gave_up)) (λ none gave_up. none (inr gave_up))

  -- what was answered was not given up
  pub quiet_passed : {T : Type 0} {a b : K} {x : T} {more : Type 0} → Quiet k a b (IsGivenUp (Ok x)) → Quiet k a b more
  quiet_passed quiet = quiet_less (λ is. absurd cc) quiet

  -- ---- calls that keep what is staged, too

  pub looks_still : {a : K} {gave_up : Type 0} → Looks k a a gave_up
  looks_still = record { quiet = quiet_still; staged = λ bytes at. at }

  pub looks_answered : {T : Type 0} {a b : K} {x : T} {gave_up : Type 0} → StaysBy k a b (Ok x) → KeepsStaged k.stages a b → Looks k a b gave_up
  looks_answered rest staged = record { quiet = quiet_answered rest; staged = staged }

  pub looks_failed : {T : Type 0} {a b : K} {f : KeepFault} {gave_up : Type 0} → StaysBy {T = T} k a b (Err f) → KeepsStaged k.stages a b → gave_up → Looks k a b gave_up
  looks_failed rest staged is = record { quiet = quiet_failed rest is; staged = staged }

  pub looks_less : {a b : K} {gave_up more : Type 0} → (gave_up → more) → Looks k a b gave_up → Looks k a b more
  looks_less less x = record { quiet = quiet_less less x.quiet; staged = x.staged }

  pub looks_then : {a b c : K} {gave_up : Type 0} → Looks k a b ⊥ → Looks k b c gave_up → Looks k a c gave_up
  looks_then x y = record { quiet = quiet_then x.quiet y.quiet; staged = λ bytes at. y.staged bytes (x.staged bytes at) }

  pub looks_passed : {T : Type 0} {a b : K} {x : T} {more : Type 0} → Looks k a b (IsGivenUp (Ok x)) → Looks k a b more
  looks_passed x = record { quiet = quiet_passed x.quiet; staged = x.staged }

  -- a refusal that is passed on
  pub looks_refused : {T U : Type 0} {a b : K} {q : Refusal} → Looks k a b (IsGivenUp {T = T} (Err q)) → Looks k a b (IsGivenUp {T = U} (Err q))
  looks_refused {q = q} x = looks_less (given_up_too q) x

-- ---- what is still staged

-- nothing is, after a call that keeps what is staged unless something is to be staged
pub unstaged_after : {K : Type 0} (k : Ghosts K) (a b c : K) (upload : Bool) → k.faults b ≡ k.faults a → (IsFalse upload → KeepsStaged k.stages a b) → (IsTrue upload → EndsUnstaged k b c)
    → StaysUnstaged k b c → StaysUnstaged k a c
unstaged_after k a b c true same keeps ends stays = λ none. ends_later k a b c (omega (arith, same)) (ends refl)
unstaged_after k a b c false same keeps ends stays = λ none. ends_later k a b c (omega (arith, same)) (stays (keeps refl [] none))

-- nothing is, after what is to be staged was used up
pub unstaged_served : {K : Type 0} (k : Ghosts K) (a b c : K) (upload : Bool) {Upload : Type 0} → k.faults a ≤ k.faults b → (IsFalse upload → KeepsStaged k.stages a b) → (IsTrue upload → Upload)
    → (Upload ⊎ k.stages b [] → EndsUnstaged k b c) → StaysUnstaged k a c
unstaged_served k a b c true less keeps is ends = λ none. ends_later k a b c less (ends (inl (is refl)))
unstaged_served k a b c false less keeps is ends = λ none. ends_later k a b c less (ends (inr (keeps refl [] none)))

-- two calls in a row, whatever they gave up
pub unstaged_then : {K : Type 0} (k : Ghosts K) (a b c : K) → StaysUnstaged k a b → k.faults a ≤ k.faults b → StaysUnstaged k b c → k.faults b ≤ k.faults c → StaysUnstaged k a c
unstaged_then k a b c first less second more = λ none.
    ⊎_elim (λ (still : k.stages b []). ends_later k a b c less (second still)) (λ (rose : Rose (k.faults a) (k.faults b)). ends_before k a b c rose more) (first none)
