use Rattle.std.proofs.Common.{arith}
use Rattle.tasks.proofs.task.Replay.of_matches.Goals as goal

pub returns-in-None-clause-given : goal.returns-in-None-clause-given
returns-in-None-clause-given c = grind arith

pub returns-in-Some-2-clause-values : goal.returns-in-Some-2-clause-values
returns-in-Some-2-clause-values c = grind arith

pub returns-in_default-clause-given : goal.returns-in_default-clause-given
returns-in_default-clause-given c = grind arith

pub returns-in_default-value_of-clause-given : goal.returns-in_default-value_of-clause-given
returns-in_default-value_of-clause-given c = grind arith
