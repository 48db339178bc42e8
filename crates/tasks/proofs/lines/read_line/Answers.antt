use Rattle.std.proofs.Common.{arith}
use Rattle.tasks.proofs.lines.read_line.Goals as goal

pub returns : goal.returns
returns g c = grind arith

pub returns-in-Some : goal.returns-in-Some
returns-in-Some g c = grind arith
