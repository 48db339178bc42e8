-- The values of the six signing parameters.
use Rattle.std.proofs.Common.{◌≡◌, ℕ, List, [], length, ap, sym, ◌∙◌, subst, None, Some, Option, Ok, Err, Result, arith}
use Rattle.std.specs.Prelude.{IfErr, IfNone}
use Rattle.percent_encoding.specs.Percent.{percent_decode}
use Rattle.sigtext.specs.Target.{Param}
use Rattle.sigtext.specs.Params.{params_named}
use Rattle.sigtext.proofs.Targets.{decoded}
use Rattle.links.specs.WellFormed.{HasValue, AreThere}
use Rattle.links.specs.SixValues.{SpellsValue, AreRawSix}
use Rattle.links.specs.declared.six.RawSix.{RawSix}

-- the decoded text is the parameter's value
pub value_read : (text bytes : List ℕ) (params : List Param) (name : List ℕ) → SpellsValue text params name → bytes ≡ percent_decode text → HasValue params name bytes
value_read text bytes params name (value, spells, has) is =
    subst (HasValue params name) (sym (is ∙ decoded _ text value spells)) has

-- a name that no parameter has does not occur once
pub not_once : (name : List ℕ) (params : List Param) → params_named name params ≡ [] → length (params_named name params) ≡ 1 → ⊥
not_once name params none once = let zero = ap length none in omega (arith, zero, once)

pub none_of : {T : Type 0} {P : Type 0} (o : Option T) → P → IfNone o P
none_of None p = p
none_of (Some x) p = tt

-- six names with one value each are present
pub six_there : (raw : RawSix) (params : List Param) → AreRawSix raw params → AreThere params
six_there raw params s =
    (ap length s.algorithm.2, (ap length s.credential.2, (ap length s.date.2, (ap length s.expires.2, (ap length s.names.2, (ap length s.signature.2, tt))))))

-- what holds in any case holds for each error
pub whatever_err : {T E : Type 0} {P : Type 0} (r : Result T E) → P → IfErr r (λ e. P)
whatever_err (Ok x) p = tt
whatever_err (Err e) p = p
