use Rattle.std.proofs.Common.{arith}
use Rattle.std.proofs.lemmas.Grind.{common_steps}
use Rattle.sockets.proofs.held.is_idle.Goals as goal

pub returns-then-is_read : goal.returns-then-is_read
returns-then-is_read g c = grind (arith, common_steps)
