use Rattle.std.proofs.Common.{arith}
use Rattle.commands.proofs.replaying.read_words.Goals as goal

pub returns-clause-moment : goal.returns-clause-moment
returns-clause-moment c = grind arith
