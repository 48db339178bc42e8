use Rattle.std.proofs.Common.{arith}
use Rattle.commands.proofs.serving.ServeWorkOfficeWork.refuse.Goals as goal

pub returns : goal.returns
returns g c = grind arith
