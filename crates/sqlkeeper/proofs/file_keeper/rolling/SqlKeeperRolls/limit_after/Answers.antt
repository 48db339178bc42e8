use Rattle.std.proofs.Common.{arith}
use Rattle.sqlkeeper.proofs.file_keeper.rolling.SqlKeeperRolls.limit_after.Goals as goal

pub fact_in-id : goal.fact_in-id
fact_in-id g c = grind arith

pub returns-clause-rest : goal.returns-clause-rest
returns-clause-rest g c = grind arith

pub returns-clause-staged : goal.returns-clause-staged
returns-clause-staged g c = grind arith

pub returns-clause-value : goal.returns-clause-value
returns-clause-value g c = grind arith
