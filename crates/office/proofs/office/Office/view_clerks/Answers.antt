use Rattle.std.proofs.Common.{arith}
use Rattle.office.proofs.Questions.{stays_ok, stays_then}
use Rattle.office.proofs.office.Office.view_clerks.Goals as goal

pub returns-clause-rest : goal.returns-clause-rest
returns-clause-rest g c = stays_then g.K.Keeper c.in_ok-key.ensures.rest (stays_ok g.K.Keeper c.in_ok-clerks.ensures.rest)

pub returns-clause-staged : goal.returns-clause-staged
returns-clause-staged g c = λ bytes at. c.clerks.ensures.staged bytes (c.key.ensures.staged bytes at)

pub returns-clause-view : goal.returns-clause-view
returns-clause-view g c = grind arith
