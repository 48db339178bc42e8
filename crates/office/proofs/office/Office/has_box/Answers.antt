use Rattle.std.proofs.Common.{arith}
use Rattle.office.proofs.Questions.{stays_ok}
use Rattle.office.proofs.office.Office.has_box.Goals as goal

pub returns-clause-rest : goal.returns-clause-rest
returns-clause-rest g c = stays_ok g.K.Keeper c.in_ok-box_row.ensures.rest

pub returns-clause-staged : goal.returns-clause-staged
returns-clause-staged g c = c.box_row.ensures.staged

pub returns-clause-value : goal.returns-clause-value
returns-clause-value g c = grind arith
