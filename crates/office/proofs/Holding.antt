-- How the keeper holds up over calls.
use Rattle.std.proofs.Common.{◌≡◌, ◌∙◌, Result, Ok, Err, ap, refl, arith}
use Rattle.sigtext.specs.declared.refusal.Refusal.{Refusal}
use Rattle.sigtext.specs.declared.refusal.Refusal.TheVariants as rule
use Rattle.boxes.specs.Keeping.{KeepsGroup}
use Rattle.boxes.specs.declared.keep.Keeper.{Ghosts}
use Rattle.office.specs.Premise.{HoldsUnless, IsGivenUp}

-- the same refusal, of another kind of result
pub given_up_too : {T U : Type 0} (q : Refusal) → IsGivenUp {T = T} (Err q) → IsGivenUp {T = U} (Err q)
given_up_too q is = ap Err (refusal_is q is)
  where
    refusal_is : {T : Type 0} (q : Refusal) → ◌≡◌ {A = Result T Refusal} (Err q) (Err rule.TryAgain) → q ≡ rule.TryAgain
    refusal_is q is = cc

module _ {K : Type 0} {is_alone : K → Type 0} {gathers : K → K → Type 0} where
  pub group_still : {a : K} → KeepsGroup is_alone gathers a a
  group_still = record { alone = λ alone. alone; same = λ first in_group. in_group }

  pub group_then : {a b c : K} → KeepsGroup is_alone gathers a b → KeepsGroup is_alone gathers b c → KeepsGroup is_alone gathers a c
  group_then x y = record { alone = λ alone. y.alone (x.alone alone); same = λ first in_group. y.same first (x.same first in_group) }

module _ {K : Type 0} {k : Ghosts K} where
  -- nothing was called
  pub holds_still : {a : K} {gave_up : Type 0} → HoldsUnless k a a gave_up
  holds_still = record { honest = λ honest. honest; opened = λ honest was other. was; counted = λ other. refl; never_less = omega arith; group = group_still }

  pub holds_less : {a b : K} {gave_up more : Type 0} → (gave_up → more) → HoldsUnless k a b gave_up → HoldsUnless k a b more
  holds_less less x = record {
    honest = x.honest;
    opened = λ honest was other. x.opened honest was (λ gave_up. other (less gave_up));
    counted = λ other. x.counted (λ gave_up. other (less gave_up));
    never_less = x.never_less;
    group = x.group;
  }

  -- two calls in a row; the first did not give up
  pub holds_then : {a b c : K} {gave_up : Type 0} → HoldsUnless k a b ⊥ → HoldsUnless k b c gave_up → HoldsUnless k a c gave_up
  holds_then x y = record {
    honest = λ honest. x.honest (y.honest honest);
    opened = λ honest was other. y.opened honest (x.opened (y.honest honest) was (λ none. none)) other;
    counted = λ other. y.counted other ∙ x.counted (λ none. none);
    never_less = omega (arith, x.never_less, y.never_less);
    group = group_then x.group y.group;
  }

  -- what was answered was not given up
  pub answered_holds : {T : Type 0} {a b : K} {x : T} {more : Type 0} → HoldsUnless k a b (IsGivenUp (Ok x)) → HoldsUnless k a b more
  answered_holds holds = holds_less (λ is. absurd cc) holds

  -- a refusal that is passed on
  pub refused_holds : {T U : Type 0} {a b : K} {q : Refusal} → HoldsUnless k a b (IsGivenUp {T = T} (Err q)) → HoldsUnless k a b (IsGivenUp {T = U} (Err q))
  refused_holds {q = q} holds = holds_less (given_up_too q) holds
