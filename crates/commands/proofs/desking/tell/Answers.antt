use Rattle.std.proofs.Common.{arith}
use Rattle.commands.proofs.desking.tell.Goals as goal

pub returns-clause-said : goal.returns-clause-said
returns-clause-said g c = grind arith
