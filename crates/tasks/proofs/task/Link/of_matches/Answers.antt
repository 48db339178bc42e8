use Rattle.std.proofs.Common.{arith}
use Rattle.tasks.proofs.task.Link.of_matches.Goals as goal

pub returns-in_err-file-clause-given : goal.returns-in_err-file-clause-given
returns-in_err-file-clause-given c = grind arith

pub returns-in_err-file-clause-values : goal.returns-in_err-file-clause-values
returns-in_err-file-clause-values c = grind arith
