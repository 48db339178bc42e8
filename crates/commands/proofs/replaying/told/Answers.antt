use Rattle.std.proofs.Common.{arith}
use Rattle.commands.proofs.replaying.told.Goals as goal

pub returns-clause-whole : goal.returns-clause-whole
returns-clause-whole g c = grind arith
