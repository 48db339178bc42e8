-- How the keeper holds up over several calls, and that nothing is left staged.
use Rattle.std.proofs.Common.{◌≡◌, ℕ, ◌≤◌, Option, None, Some, Result, Ok, Err, inl, inr, arith, refl, sym, List, ◌∙◌}
use Rattle.std.specs.Prelude.{IsSomeAnd, OnErr}
use Rattle.std.proofs.lemmas.Bool.{cases_lt}
use Rattle.sigtext.specs.Counts.{Rose}
use Rattle.boxes.specs.Bound.{StaysBy}
use Rattle.boxes.specs.Keeping.{KeepsStaged}
use Rattle.boxes.specs.declared.keep.KeepFault.{KeepFault}
use Rattle.boxes.specs.declared.keep.Keeper.{Ghosts}
use Rattle.office.specs.Foreseeing.{AreStaged}
use Rattle.office.specs.declared.requests.foreseeing.Body.{Body}
use Rattle.wire.specs.declared.session.SessionEnd.{SessionEnd}
use Rattle.wire.specs.declared.session.SessionEnd.TheVariants.{ReadFault}
use Rattle.office.specs.Connections.{MayGiveUp}
use Rattle.office.specs.Premise.{EndsUnstaged, HoldsUnless, IsFault}
use Rattle.office.proofs.Holding.{group_still, group_then, holds_less, holds_then}

-- if the count did not fall before a rise, it rose over both
pub rose_later : (a b c : ℕ) → a ≤ b → Rose b c → Rose a c
rose_later a b c least (inl more) = inl (omega (arith, least, more))
rose_later a b c least (inr (top, same)) =
    elim (cases_lt a b) [
      | inl less ↦ inl (omega (arith, less, same))
      | inr most ↦ let e : a ≡ b = omega (arith, least, most) in inr (e ∙ top, same ∙ sym e)
    ]

-- if the count did not fall after a rise, it rose over both
pub rose_before : (a b c : ℕ) → Rose a b → b ≤ c → Rose a c
rose_before a b c (inl less) most = inl (omega (arith, less, most))
rose_before a b c (inr (top, same)) most =
    elim (cases_lt b c) [
      | inl less ↦ inl (omega (arith, less, same))
      | inr least ↦ inr (top, omega (arith, least, most, same))
    ]

pub rose_least : (a b : ℕ) → Rose a b → a ≤ b
rose_least a b (inl less) = omega (arith, less)
rose_least a b (inr (top, same)) = omega (arith, same)

-- nothing is staged in the end, whatever was staged before
pub ends_later : {K : Type 0} (k : Ghosts K) (a b c : K) → k.faults a ≤ k.faults b → EndsUnstaged k b c → EndsUnstaged k a c
ends_later k a b c least (inl none) = inl none
ends_later k a b c least (inr rose) = inr (rose_later (k.faults a) (k.faults b) (k.faults c) least rose)

-- a counted fault stays counted
pub ends_before : {K : Type 0} (k : Ghosts K) (a b c : K) → Rose (k.faults a) (k.faults b) → k.faults b ≤ k.faults c → EndsUnstaged k a c
ends_before k a b c rose most = inr (rose_before (k.faults a) (k.faults b) (k.faults c) rose most)

-- a question that was answered
pub asked_holds : {K T : Type 0} {P : Type 0} (k : Ghosts K) (a b : K) (x : T) → StaysBy k a b (Ok x) → HoldsUnless k a b P
asked_holds k a b x rest = record {
  honest = rest.honest;
  opened = λ is was not. rest.opened is was;
  counted = λ not. rest.count.ok;
  never_less = let same = rest.count.ok in omega (arith, same);
  group = rest.group;
}

-- a question that failed
pub failed_holds : {K T : Type 0} {P : Type 0} (k : Ghosts K) (a b : K) (f : KeepFault) → StaysBy {T = T} k a b (Err f) → P → HoldsUnless k a b P
failed_holds k a b f rest is = record {
  honest = rest.honest;
  opened = λ h was not. absurd (not is);
  counted = λ not. absurd (not is);
  never_less = rose_least (k.faults a) (k.faults b) rest.count.err;
  group = rest.group;
}

-- ---- sessions that may have given up

-- the same after earlier calls whose count did not fall
pub may_later : {K : Type 0} (k : Ghosts K) (a b c : K) (e : SessionEnd) → k.faults a ≤ k.faults b → MayGiveUp k b c e → MayGiveUp k a c e
may_later k a b c e least (inl refused) = inl refused
may_later k a b c e least (inr (inl write)) = inr (inl write)
may_later k a b c e least (inr (inr (read, rose))) = inr (inr (read, rose_later (k.faults a) (k.faults b) (k.faults c) least rose))

pub some_may_later : {K : Type 0} (k : Ghosts K) (a b c : K) (end : Option SessionEnd) → k.faults a ≤ k.faults b → IsSomeAnd end (MayGiveUp k b c) → IsSomeAnd end (MayGiveUp k a c)
some_may_later k a b c None least may = absurd may
some_may_later k a b c (Some e) least may = may_later k a b c e least may

-- a read failed, and then what was staged was dropped or was not
pub broke_off_holds : {K T : Type 0} (k : Ghosts K) (a b c : K) (result : Result T KeepFault) → HoldsUnless k a b ⊥ → HoldsUnless k b c (IsFault result) → OnErr result (Rose (k.faults b) (k.faults c))
    → HoldsUnless k a c (MayGiveUp k a c ReadFault)
broke_off_holds k a b c (Ok done) x y rose = holds_less (λ none. absurd none) (holds_then x y)
broke_off_holds k a b c (Err f) x y rose = record {
  honest = λ honest. x.honest (y.honest honest);
  opened = λ honest was other. absurd (other (inr (inr (refl, rose_later (k.faults a) (k.faults b) (k.faults c) x.never_less rose))));
  counted = λ other. absurd (other (inr (inr (refl, rose_later (k.faults a) (k.faults b) (k.faults c) x.never_less rose))));
  never_less = let low = x.never_less in let high = y.never_less in omega (arith, low, high);
  group = group_then x.group y.group;
}

-- nothing was asked
pub asked_nothing : {K P : Type 0} (k : Ghosts K) (a : K) → HoldsUnless k a a P
asked_nothing k a = record { honest = λ is. is; opened = λ is was not. was; counted = λ not. refl; never_less = omega arith; group = group_still }

module _ {K : Type 0} {k : Ghosts K} where
  -- two calls in a row
  pub then_holds : {a b c : K} {P Q R : Type 0} → HoldsUnless k a b P → HoldsUnless k b c Q → ((R → ⊥) → P → ⊥) → ((R → ⊥) → Q → ⊥) → HoldsUnless k a c R
  then_holds x y f g = record {
    honest = λ is. x.honest (y.honest is);
    opened = λ is was not. y.opened is (x.opened (y.honest is) was (f not)) (g not);
    counted = λ not. y.counted (g not) ∙ x.counted (f not);
    never_less = let low = x.never_less in let high = y.never_less in omega (arith, low, high);
    group = group_then x.group y.group;
  }

  -- what was staged is still staged after a call that keeps it
  pub staged_later : {a b : K} {bytes : List ℕ} {body : Body} → KeepsStaged k.stages a b → AreStaged k a bytes body → AreStaged k b bytes body
  staged_later {bytes = bytes} keeps are = record { staged = keeps bytes are.staged; octets = are.octets; short = are.short; length_is = are.length_is; digest = are.digest }
