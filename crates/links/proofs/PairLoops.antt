-- Searching the names of a target's parameters, one pair after another.
use Rattle.std.proofs.Common.{◌≡◌, ℕ, Bool, true, false, List, Some, refl, sym, ap, ◌∙◌}
use Rattle.std.specs.Prelude.{◌||◌}
use Rattle.std.specs.List.{list_any}
use Rattle.percent_encoding.specs.Percent.{percent_decode}
use Rattle.sigtext.specs.Target.{Param}
use Rattle.sigtext.specs.Targets.{SpellsOptionalQuery, GivesNext}
use Rattle.sigtext.specs.declared.target.RawParam.{RawParam}
use Rattle.sigtext.specs.declared.target.Pairs.{Pairs}
use Rattle.sigtext.proofs.Targets.{decoded}

-- whether some parameter's name passes the test
abbrev pub any_name : (List ℕ → Bool) → List Param → Bool
any_name test params = list_any (λ p. test p.name) params

-- this is true exactly if one of the parameters before the remaining pairs passes the test
abbrev pub TellsAny : (List ℕ → Bool) → List Param → Bool → Pairs → Type 0
TellsAny test params found pairs = (rest : List Param) × SpellsOptionalQuery pairs.left rest × (any_name test params ≡ (found || any_name test rest))

past : (found here rest : Bool) → here ≡ false → (found || (here || rest)) ≡ (found || rest)
past found here rest fails = ap (λ b. found || (b || rest)) fails

at : (found here rest : Bool) → here ≡ true → (found || (here || rest)) ≡ (true || rest)
at true here rest holds = refl
at false here rest holds = ap (λ b. b || rest) holds

pub any_more : (test : List ℕ → Bool) (params : List Param) (found : Bool) (before after : Pairs) (raw : RawParam) → GivesNext before (Some raw) after → test (percent_decode raw.name.now) ≡ false
    → TellsAny test params found before → TellsAny test params found after
any_more test params found before after raw g fails (rest, spelled, same) =
    let (p, others, is, spells, left) = g.param rest spelled in
    let here = sym (ap test (decoded _ raw.name.now p.name spells.name_spelled)) ∙ fails in
    (others, left, same ∙ ap (λ ps. found || any_name test ps) is ∙ past found (test p.name) (any_name test others) here)

pub any_here : (test : List ℕ → Bool) (params : List Param) (found : Bool) (before after : Pairs) (raw : RawParam) → GivesNext before (Some raw) after → test (percent_decode raw.name.now) ≡ true
    → TellsAny test params found before → TellsAny test params true after
any_here test params found before after raw g holds (rest, spelled, same) =
    let (p, others, is, spells, left) = g.param rest spelled in
    let here = sym (ap test (decoded _ raw.name.now p.name spells.name_spelled)) ∙ holds in
    (others, left, same ∙ ap (λ ps. found || any_name test ps) is ∙ at found (test p.name) (any_name test others) here)
