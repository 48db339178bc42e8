use Rattle.std.proofs.Common.{arith}
use Rattle.std.proofs.lemmas.Grind.{common_steps}
use Rattle.sqlaudit.proofs.box_rules.box_of.Goals as goal

pub returns-in_default : goal.returns-in_default
returns-in_default c = grind arith

pub returns-then-not-is_box : goal.returns-then-not-is_box
returns-then-not-is_box c = grind (arith, common_steps)
