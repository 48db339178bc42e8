use Rattle.std.proofs.Common.{arith}
use Rattle.sqlaudit.proofs.box_rules.is_box.Goals as goal

pub returns-else-entry-row : goal.returns-else-entry-row
returns-else-entry-row c = grind arith

pub returns-then-entry-row : goal.returns-then-entry-row
returns-then-entry-row c = grind arith

pub returns-then-not-has_form : goal.returns-then-not-has_form
returns-then-not-has_form c = grind arith
