use Rattle.std.proofs.Common.{arith}
use Rattle.commands.proofs.desking.read_command.Goals as goal

pub returns-then-ne : goal.returns-then-ne
returns-then-ne g c = grind arith
