use Rattle.std.proofs.Common.{arith}
use Rattle.boxes.proofs.forms.is_name_rule.Goals as goal

pub returns-in-Any : goal.returns-in-Any
returns-in-Any c = grind arith

pub returns-in-Begins : goal.returns-in-Begins
returns-in-Begins c = grind arith
