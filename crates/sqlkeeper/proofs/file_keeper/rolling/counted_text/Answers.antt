use Rattle.std.proofs.Common.{arith}
use Rattle.sqlkeeper.proofs.file_keeper.rolling.counted_text.Goals as goal

pub returns-in-Err-clause-count : goal.returns-in-Err-clause-count
returns-in-Err-clause-count c = grind arith
