use Rattle.std.proofs.Common.{arith}
use Rattle.links.proofs.desk.reading.read_command.Goals as goal

pub returns-in-Some-clause-some : goal.returns-in-Some-clause-some
returns-in-Some-clause-some c = grind arith
