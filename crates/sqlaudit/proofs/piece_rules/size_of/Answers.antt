use Rattle.std.proofs.Common.{arith}
use Rattle.sqlaudit.proofs.piece_rules.size_of.Goals as goal

pub returns-in-Some : goal.returns-in-Some
returns-in-Some c = grind arith
