use Rattle.std.proofs.Common.{arith}
use Rattle.sqlkeeper.proofs.file_keeper.is_past_full.Goals as goal

pub returns-in-Desk : goal.returns-in-Desk
returns-in-Desk c = grind arith

pub returns-in-SetFile : goal.returns-in-SetFile
returns-in-SetFile c = grind arith
