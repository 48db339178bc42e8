use Rattle.std.proofs.Common.{arith}
use Rattle.commands.proofs.manifesting.PublishWorkOfficeWork.refuse.Goals as goal

pub returns : goal.returns
returns g c = grind arith
