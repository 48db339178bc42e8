use Rattle.std.proofs.Common.{arith}
use Rattle.sqlkeeper.proofs.file_keeper.counted.Goals as goal

pub returns-in-Err-clause-count : goal.returns-in-Err-clause-count
returns-in-Err-clause-count g c = grind arith

pub returns-in-Err-clause-room : goal.returns-in-Err-clause-room
returns-in-Err-clause-room g c = grind arith
