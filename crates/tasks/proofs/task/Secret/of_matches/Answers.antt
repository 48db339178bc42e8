use Rattle.std.proofs.Common.{arith}
use Rattle.tasks.proofs.task.Secret.of_matches.Goals as goal

pub returns-in-None-None-clause-given : goal.returns-in-None-None-clause-given
returns-in-None-None-clause-given c = grind arith

pub returns-in-None-Some-clause-values : goal.returns-in-None-Some-clause-values
returns-in-None-Some-clause-values c = grind arith

pub returns-in-Some-None-clause-values : goal.returns-in-Some-None-clause-values
returns-in-Some-None-clause-values c = grind arith
