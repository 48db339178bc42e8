use Rattle.std.proofs.Common.{arith}
use Rattle.sqlaudit.proofs.box_rules.minute_of.Goals as goal

pub returns : goal.returns
returns c = grind arith
