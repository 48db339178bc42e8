use Rattle.std.proofs.Common.{arith}
use Rattle.tasks.proofs.words.with_command.Goals as goal

pub returns-in-Err : goal.returns-in-Err
returns-in-Err c = grind arith

pub returns-in-Ok : goal.returns-in-Ok
returns-in-Ok c = grind arith
