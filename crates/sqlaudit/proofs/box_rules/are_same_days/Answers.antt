use Rattle.std.proofs.Common.{◌∙◌, sym}
use mathlib.Core.Bool.{beq}
use Rattle.sqlaudit.proofs.SameTexts.{same_list, tells_bool}
use Rattle.sqlaudit.proofs.box_rules.are_same_days.Goals as goal

pub returns : goal.returns
returns c = let both = same_list beq tells_bool c.args.a.now c.args.b.now in (λ t. both.0 (sym c.eq.ensures ∙ t), λ q. c.eq.ensures ∙ both.1 q)
