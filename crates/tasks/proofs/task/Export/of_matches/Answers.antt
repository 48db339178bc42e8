use Rattle.std.proofs.Common.{arith}
use Rattle.tasks.proofs.task.Export.of_matches.Goals as goal

pub returns-clause-values : goal.returns-clause-values
returns-clause-values c = grind arith

pub returns-in_err-value_of-2-clause-given : goal.returns-in_err-value_of-2-clause-given
returns-in_err-value_of-2-clause-given c = grind arith

pub returns-in_err-value_of-2-clause-values : goal.returns-in_err-value_of-2-clause-values
returns-in_err-value_of-2-clause-values c = grind arith

pub returns-in_err-value_of-clause-values : goal.returns-in_err-value_of-clause-values
returns-in_err-value_of-clause-values c = grind arith
