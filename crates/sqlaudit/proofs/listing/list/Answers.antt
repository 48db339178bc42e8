use Rattle.std.proofs.Common.{arith}
use Rattle.sqltables.proofs.Onward.{failed, followed}
use Rattle.sqlaudit.proofs.listing.list.Goals as goal

pub returns-in_err-rows-clause-rest : goal.returns-in_err-rows-clause-rest
returns-in_err-rows-clause-rest g c = failed c.from_residual.result c.query.ensures.rest c.from_residual.ensures.0

pub returns-in_err-numbers_of-clause-rest : goal.returns-in_err-numbers_of-clause-rest
returns-in_err-numbers_of-clause-rest g c = failed c.from_residual-in_err-numbers_of.result c.in_ok-rows.ensures.rest c.from_residual-in_err-numbers_of.ensures.0

pub returns-clause-rest : goal.returns-clause-rest
returns-clause-rest g c = followed c.lines_of.result c.in_ok-rows.ensures.rest

pub returns-clause-read : goal.returns-clause-read
returns-clause-read g c = grind arith

pub returns-in_err-rows-clause-read : goal.returns-in_err-rows-clause-read
returns-in_err-rows-clause-read g c = grind arith
