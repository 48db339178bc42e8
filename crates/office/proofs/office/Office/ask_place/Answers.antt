use Rattle.std.proofs.Common.{subst, sym}
use Rattle.boxes.specs.Views.{IsReceiptAt}
use Rattle.office.proofs.Questions.{stays_ok, stays_then, still_staged, stays_passed}
use Rattle.office.proofs.office.Office.ask_place.Goals as goal

pub returns-clause-rest : goal.returns-clause-rest
returns-clause-rest g c = stays_then g.K.Keeper c.in_ok-standing.ensures.rest (stays_ok g.K.Keeper c.in_ok-stand.ensures.rest)

pub returns-clause-staged : goal.returns-clause-staged
returns-clause-staged g c = λ bytes at. c.in_ok-stand.ensures.staged bytes (c.file_receipt.ensures.staged bytes at)

pub returns-in_err-stand-clause-rest : goal.returns-in_err-stand-clause-rest
returns-in_err-stand-clause-rest g c = stays_then g.K.Keeper c.in_ok-standing.ensures.rest (stays_passed g.K.Keeper c.from_residual-in_err-stand.result c.from_residual-in_err-stand.ensures.1 c.in_err-stand.ensures.rest)

pub returns-clause-stand : goal.returns-clause-stand
returns-clause-stand g c s u kept is staged =
    let at = c.in_ok-standing.ensures.value s kept.means kept.sound (c.in_ok-stand.ensures.rest.honest kept.is_honest) in
    c.in_ok-stand.ensures.value s u (record { means = c.in_ok-standing.ensures.rest.same s kept.means; is_honest = kept.is_honest; sound = kept.sound }) is (subst (λ x. IsReceiptAt s x c.in_ok-standing.standing) (sym is) at)
    (still_staged (c.file_receipt.ensures.staged u.bytes staged.staged) staged)

pub returns-clause-standing : goal.returns-clause-standing
returns-clause-standing g c s kept = c.in_ok-standing.ensures.value s kept.means kept.sound (c.in_ok-stand.ensures.rest.honest kept.is_honest)
