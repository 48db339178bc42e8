use Rattle.std.proofs.Common.{arith}
use Rattle.sqltables.proofs.Results.{at_answer}
use Rattle.sqltables.proofs.Onward.{failed, followed}
use Rattle.sqlquestions.proofs.questions.has_limit.Goals as goal

pub returns-clause-still : goal.returns-clause-still
returns-clause-still g c tables pends = at_answer c.shows_text.result (c.in_ok-rows.ensures.still tables pends)

pub returns-in_err-rows-clause-rest : goal.returns-in_err-rows-clause-rest
returns-in_err-rows-clause-rest g c = failed c.from_residual.result c.select_limits.ensures.rest c.from_residual.ensures.0

pub returns-clause-rest : goal.returns-clause-rest
returns-clause-rest g c = followed c.shows_text.result c.in_ok-rows.ensures.rest

pub returns-clause-found : goal.returns-clause-found
returns-clause-found g c = grind arith

pub returns-in_err-rows-clause-found : goal.returns-in_err-rows-clause-found
returns-in_err-rows-clause-found g c = grind arith
