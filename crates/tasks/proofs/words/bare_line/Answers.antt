use Rattle.std.proofs.Common.{arith}
use Rattle.tasks.proofs.words.bare_line.Goals as goal

pub returns : goal.returns
returns c = grind arith
