use Rattle.std.proofs.Common.{arith}
use Rattle.sqlaudit.proofs.lines.PieceLineLine.of_row.Goals as goal

pub returns : goal.returns
returns c = grind arith
