use Rattle.std.proofs.Common.{arith}
use Rattle.sqlkeeper.proofs.file_keeper.SqlKeeperKeeper.stage_begin.Goals as goal

pub returns-clause-rest : goal.returns-clause-rest
returns-clause-rest g c = grind arith
