use Rattle.std.proofs.Common.{arith}
use Rattle.tasks.proofs.task.secret_error.Goals as goal

pub returns : goal.returns
returns c = grind arith
