use Rattle.std.proofs.Common.{arith}
use Rattle.lists.proofs.lines.line_of.Goals as goal

pub returns-clause-line : goal.returns-clause-line
returns-clause-line c = grind arith
