use Rattle.std.proofs.Common.{arith}
use Rattle.commands.proofs.machine.MachineOutside.clock.Goals as goal

pub returns : goal.returns
returns g c = grind arith
