use Rattle.std.proofs.Common.{arith}
use Rattle.sqlkeeper.proofs.file_keeper.SqlKeeperKeeper.next_number.Goals as goal

pub returns-clause-sure : goal.returns-clause-sure
returns-clause-sure g c = grind arith
