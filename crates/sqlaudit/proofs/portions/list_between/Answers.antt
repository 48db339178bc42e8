use Rattle.sqltables.proofs.Onward.{failed, followed}
use Rattle.sqlaudit.proofs.portions.list_between.Goals as goal

pub returns-in_err-rows-clause-rest : goal.returns-in_err-rows-clause-rest
returns-in_err-rows-clause-rest g c = failed c.from_residual.result c.query.ensures.rest c.from_residual.ensures.0

pub returns-clause-rest : goal.returns-clause-rest
returns-clause-rest g c = followed c.lines_of.result c.in_ok-rows.ensures.rest
