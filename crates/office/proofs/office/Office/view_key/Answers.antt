use Rattle.std.proofs.Common.{arith}
use Rattle.office.proofs.Questions.{stays_ok}
use Rattle.office.proofs.office.Office.view_key.Goals as goal

pub returns-clause-rest : goal.returns-clause-rest
returns-clause-rest g c = stays_ok g.K.Keeper c.in_ok-key.ensures.rest

pub returns-clause-staged : goal.returns-clause-staged
returns-clause-staged g c = c.key.ensures.staged

pub returns-clause-view : goal.returns-clause-view
returns-clause-view g c = grind arith
