use Rattle.std.proofs.Common.{arith}
use Rattle.sqlaudit.proofs.lines.text.Goals as goal

pub returns : goal.returns
returns c = grind arith
