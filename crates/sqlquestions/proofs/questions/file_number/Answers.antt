use Rattle.std.proofs.Common.{arith}
use Rattle.sqltables.proofs.Onward.{failed, succeeded}
use Rattle.sqlquestions.proofs.questions.file_number.Goals as goal

pub returns-in_err-row-clause-rest : goal.returns-in_err-row-clause-rest
returns-in_err-row-clause-rest g c = failed c.from_residual.result c.select_file.ensures.rest c.from_residual.ensures.0

pub returns-in_default-clause-rest : goal.returns-in_default-clause-rest
returns-in_default-clause-rest g c = succeeded _ c.in_ok-row.ensures.rest

pub returns-in_err-get-clause-rest : goal.returns-in_err-get-clause-rest
returns-in_err-get-clause-rest g c = failed c.from_residual-in_err-get.result c.in_ok-row.ensures.rest c.from_residual-in_err-get.ensures.0

pub returns-clause-rest : goal.returns-clause-rest
returns-clause-rest g c = succeeded _ c.in_ok-row.ensures.rest

pub returns-clause-found : goal.returns-clause-found
returns-clause-found g c = grind arith

pub returns-in_default-clause-found : goal.returns-in_default-clause-found
returns-in_default-clause-found g c = grind arith
