-- What was written can be read back.
use Rattle.std.proofs.Common.{◌≡◌, ◌≢◌, ℕ, List, refl, sym, subst}
use Rattle.sigtext.specs.declared.refusal.Refusal.{Refusal}
use Rattle.sigtext.specs.declared.refusal.Refusal.TheVariants as rule
use Rattle.sigtext.specs.declared.target.Target.{Target}
use Rattle.sigtext.specs.Rules.{IsFirstToFail, AllHold}
use Rattle.sigtext.specs.SignedHeaders.{Header}
use Rattle.sigtext.specs.SignedValues.{ValueRule}
use Rattle.sigtext.specs.Target.{Param, IsTargetOf}
use Rattle.sigtext.specs.Targets.{SpellsReading, IsReadFrom}
use Rattle.sigtext.proofs.Uniqueness.{values_once}

pub only_again : (q : Refusal) → ((q ≢ rule.TryAgain) → ⊥) → q ≡ rule.TryAgain
only_again rule.TryAgain h = refl
only_again _ h = absurd (h (λ e. absurd cc))

-- a target that was read has the reading that is known
pub known_reading : (text : List ℕ) (t : Target) (path : List ℕ) (params : List Param) → IsReadFrom text t → IsTargetOf text path params → SpellsReading t path params
known_reading text t path params read is =
    let same = read.only path params is in
    subst (λ (ps : List Param). SpellsReading t path ps) (sym same.1) (subst (λ (p : List ℕ). SpellsReading t p read.read.params) (sym same.0) read.read.spelled)

-- no rule is the first to fail if all hold
pub none_fails : {P : Type 0} (rules : Refusal → P → Type 0) (q : Refusal) (parts : P) → AllHold rules parts → IsFirstToFail rules q → ⊥
none_fails rules q parts all f = f.fails parts (λ x below. all x) (all q)

-- the values that were read are the known ones
pub known_values : (headers : List Header) (names : List (List ℕ)) (signed others : List Header) → AllHold (ValueRule headers names) signed → AllHold (ValueRule headers names) others → others ≡ signed
known_values headers names signed others a b = values_once headers names signed others (a rule.SignedValues).0 (b rule.SignedValues).0
