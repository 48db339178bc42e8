use Rattle.office.proofs.Questions.{stays_ok, stays_then, still_staged, stays_passed}
use Rattle.office.proofs.office.Office.look_up.Goals as goal

pub returns-clause-rest : goal.returns-clause-rest
returns-clause-rest g c = stays_then g.K.Keeper c.in_ok-office.ensures.rest (stays_ok g.K.Keeper c.in_ok-standing.ensures.rest)

pub returns-clause-staged : goal.returns-clause-staged
returns-clause-staged g c = λ bytes at. c.in_ok-standing.ensures.staged bytes (c.ask_office.ensures.staged bytes at)

pub returns-in_err-standing-clause-rest : goal.returns-in_err-standing-clause-rest
returns-in_err-standing-clause-rest g c = stays_then g.K.Keeper c.in_ok-office.ensures.rest (stays_passed g.K.Keeper c.from_residual-in_err-standing.result c.from_residual-in_err-standing.ensures.1 c.in_err-standing.ensures.rest)

pub returns-clause-view : goal.returns-clause-view
returns-clause-view g c s kept box =
    let office = c.in_ok-office.ensures.value s (record { means = kept.means; is_honest = c.in_ok-standing.ensures.rest.honest kept.is_honest; sound = kept.sound }) in
    record {
      office = office.0;
      in_box = box;
      standing = c.in_ok-standing.ensures.standing s (record { means = c.in_ok-office.ensures.rest.same s kept.means; is_honest = kept.is_honest; sound = kept.sound });
      totals = office.1;
      next_number = office.2;
    }

pub returns-clause-stand : goal.returns-clause-stand
returns-clause-stand g c s u kept is staged =
    c.in_ok-standing.ensures.stand s u (record { means = c.in_ok-office.ensures.rest.same s kept.means; is_honest = kept.is_honest; sound = kept.sound }) is
    (still_staged (c.ask_office.ensures.staged u.bytes staged.staged) staged)
