use Rattle.std.proofs.Common.{arith}
use Rattle.tasks.proofs.task.OfficeFile.of_matches.Goals as goal

pub returns-in_err-value_of-clause-values : goal.returns-in_err-value_of-clause-values
returns-in_err-value_of-clause-values c = grind arith
