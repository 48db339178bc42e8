use Rattle.std.proofs.Common.{arith}
use Rattle.office.proofs.Questions.{stays_ok, stays_then, stays_passed}
use Rattle.office.proofs.office.Office.view_limit.Goals as goal

pub returns-clause-rest : goal.returns-clause-rest
returns-clause-rest g c = stays_then g.K.Keeper c.in_ok-key.ensures.rest (stays_then g.K.Keeper c.in_ok-has_box.ensures.rest (stays_ok g.K.Keeper c.in_ok-has_limit.ensures.rest))

pub returns-clause-staged : goal.returns-clause-staged
returns-clause-staged g c = λ bytes at. c.has_limit.ensures.staged bytes (c.has_box.ensures.staged bytes (c.key.ensures.staged bytes at))

pub returns-in_err-has_limit-clause-rest : goal.returns-in_err-has_limit-clause-rest
returns-in_err-has_limit-clause-rest g c =
    stays_then g.K.Keeper c.in_ok-key.ensures.rest (stays_then g.K.Keeper c.in_ok-has_box.ensures.rest (stays_passed g.K.Keeper c.from_residual-in_err-has_limit.result c.from_residual-in_err-has_limit.ensures.1 c.in_err-has_limit.ensures.rest))

pub returns-clause-view : goal.returns-clause-view
returns-clause-view g c = grind arith

pub returns-in_err-has_limit-clause-staged : goal.returns-in_err-has_limit-clause-staged
returns-in_err-has_limit-clause-staged g c = grind arith
