use Rattle.std.proofs.Common.{arith}
use Rattle.sigtext.proofs.target.begins_escape.Goals as goal

pub returns-else-is_digit : goal.returns-else-is_digit
returns-else-is_digit c = grind arith
