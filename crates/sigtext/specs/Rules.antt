-- The first of some numbered rules that fails. The rules share parts, such as the decoded parameters. A refusal stands
-- for the rule that it reports.
use Rattle.std.specs.Prelude.{◌<◌}
use Rattle.sigtext.specs.declared.refusal.Refusal.{Refusal}
use Rattle.sigtext.specs.Refusals.{number_of}

-- each rule with a smaller number holds for these parts
abbrev pub HoldBefore : {P : Type 0} → (Refusal → P → Type 0) → Refusal → P → Type 0
HoldBefore rule r parts = (q : Refusal) → number_of q < number_of r → rule q parts

-- some parts obey all rules with smaller numbers, and no such parts obey this one
pub record IsFirstToFail {P : Type 0} (rule : Refusal → P → Type 0) (r : Refusal) : Type 0 where
  pub parts : P
  pub before : HoldBefore rule r parts
  pub fails : (other : P) → HoldBefore rule r other → rule r other → ⊥

-- every rule holds for these parts
abbrev pub AllHold : {P : Type 0} → (Refusal → P → Type 0) → P → Type 0
AllHold rule parts = (q : Refusal) → rule q parts
