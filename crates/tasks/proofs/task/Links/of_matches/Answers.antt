use Rattle.std.proofs.Common.{arith}
use Rattle.tasks.proofs.task.Links.of_matches.Goals as goal

pub returns-clause-values : goal.returns-clause-values
returns-clause-values c = grind arith

pub returns-in_default-clause-given : goal.returns-in_default-clause-given
returns-in_default-clause-given c = grind arith
