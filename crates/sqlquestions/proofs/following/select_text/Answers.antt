use Rattle.std.proofs.Common.{arith}
use Rattle.sqltables.proofs.Onward.{failed, succeeded}
use Rattle.sqlquestions.proofs.following.select_text.Goals as goal

pub returns-in_err-row-clause-rest : goal.returns-in_err-row-clause-rest
returns-in_err-row-clause-rest g c = failed c.from_residual.result c.select_row.ensures.rest c.from_residual.ensures.0

pub returns-in_default-clause-rest : goal.returns-in_default-clause-rest
returns-in_default-clause-rest g c = succeeded _ c.in_ok-row.ensures.rest

pub returns-in_err-read_text-clause-rest : goal.returns-in_err-read_text-clause-rest
returns-in_err-read_text-clause-rest g c = failed c.from_residual-in_err-read_text.result c.in_ok-row.ensures.rest c.from_residual-in_err-read_text.ensures.0

pub returns-clause-rest : goal.returns-clause-rest
returns-clause-rest g c = succeeded _ c.in_ok-row.ensures.rest

pub returns-clause-shown : goal.returns-clause-shown
returns-clause-shown g c = grind arith

pub returns-in_default-clause-shown : goal.returns-in_default-clause-shown
returns-in_default-clause-shown g c = grind arith
