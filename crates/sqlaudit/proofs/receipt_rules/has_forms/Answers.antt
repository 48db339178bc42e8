use Rattle.std.proofs.Common.{arith}
use Rattle.sqlaudit.proofs.receipt_rules.has_forms.Goals as goal

pub returns-else-entry : goal.returns-else-entry
returns-else-entry c = grind arith

pub returns-then-entry : goal.returns-then-entry
returns-then-entry c = grind arith

pub returns-then-not-has_form : goal.returns-then-not-has_form
returns-then-not-has_form c = grind arith

pub returns-then-not-has_form-2 : goal.returns-then-not-has_form-2
returns-then-not-has_form-2 c = grind arith
