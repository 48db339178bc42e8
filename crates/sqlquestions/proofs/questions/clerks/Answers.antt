use Rattle.sqltables.proofs.Results.{at_answer}
use Rattle.sqlquestions.proofs.ClerkRows.{counts_clerks}
use Rattle.sqltables.proofs.Onward.{failed, followed}
use Rattle.sqlquestions.proofs.questions.clerks.Goals as goal

pub returns-clause-found : goal.returns-clause-found
returns-clause-found g c v tables s ours pends keys inside clean =
    counts_clerks s tables.key c.in_ok-rows.rows.items c.deref.result.now c.count_texts.result keys c.deref.ensures.value (c.in_ok-rows.ensures.found v tables ours pends inside clean) c.count_texts.ensures

pub returns-clause-still : goal.returns-clause-still
returns-clause-still g c v tables ours pends = at_answer c.count_texts.result (c.in_ok-rows.ensures.still v tables ours pends)

pub returns-in_err-rows-clause-rest : goal.returns-in_err-rows-clause-rest
returns-in_err-rows-clause-rest g c = failed c.from_residual.result c.select_clerks.ensures.rest c.from_residual.ensures.0

pub returns-clause-rest : goal.returns-clause-rest
returns-clause-rest g c = followed c.count_texts.result c.in_ok-rows.ensures.rest
