use Rattle.std.proofs.Common.{arith}
use Rattle.sqlchanges.proofs.Chained.{failed, succeeded}
use Rattle.sqlchanges.proofs.running.run.Goals as goal

pub returns-in_err-execute-clause-rest : goal.returns-in_err-execute-clause-rest
returns-in_err-execute-clause-rest g c = failed c.from_residual.result c.execute.ensures.rest c.from_residual.ensures.0

pub returns-clause-rest : goal.returns-clause-rest
returns-clause-rest g c = succeeded _ c.in_ok-execute.ensures.rest

pub returns-clause-ran : goal.returns-clause-ran
returns-clause-ran g c = grind arith

pub returns-in_err-execute-clause-ran : goal.returns-in_err-execute-clause-ran
returns-in_err-execute-clause-ran g c = grind arith
