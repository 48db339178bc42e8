use Rattle.std.proofs.Common.{arith}
use Rattle.tasks.proofs.task.Init.of_matches.Goals as goal

pub returns-clause-values : goal.returns-clause-values
returns-clause-values c = grind arith
