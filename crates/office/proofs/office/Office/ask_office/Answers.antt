use Rattle.std.proofs.Common.{arith}
use Rattle.office.proofs.Questions.{stays_ok, stays_then}
use Rattle.office.proofs.office.Office.ask_office.Goals as goal

pub returns-clause-rest : goal.returns-clause-rest
returns-clause-rest g c = stays_then g.K.Keeper c.in_ok-office.ensures.rest (stays_then g.K.Keeper c.in_ok-totals.ensures.rest (stays_ok g.K.Keeper c.in_ok-next_number.ensures.rest))

pub returns-clause-staged : goal.returns-clause-staged
returns-clause-staged g c = λ bytes at. c.next_number.ensures.staged bytes (c.sizes.ensures.staged bytes (c.settings.ensures.staged bytes at))

pub returns-clause-value : goal.returns-clause-value
returns-clause-value g c = grind arith

pub returns-in_err-next_number-clause-staged : goal.returns-in_err-next_number-clause-staged
returns-in_err-next_number-clause-staged g c = grind arith
