use Rattle.std.proofs.Common.{arith}
use Rattle.sqlkeeper.proofs.file_keeper.rolling.SqlKeeperRolls.file_after.Goals as goal

pub fact_in-in_box : goal.fact_in-in_box
fact_in-in_box g c = grind arith

pub returns-clause-rest : goal.returns-clause-rest
returns-clause-rest g c = grind arith

pub returns-clause-staged : goal.returns-clause-staged
returns-clause-staged g c = grind arith

pub returns-clause-value : goal.returns-clause-value
returns-clause-value g c = grind arith
