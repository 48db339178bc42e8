use Rattle.std.proofs.Common.{arith}
use Rattle.office.proofs.Questions.{stays_ok, stays_then, stays_passed}
use Rattle.office.proofs.office.Office.look_for.Goals as goal

pub returns-clause-rest : goal.returns-clause-rest
returns-clause-rest g c = stays_then g.K.Keeper c.in_ok-in_box.ensures.rest (stays_ok g.K.Keeper c.in_ok-file.ensures.rest)

pub returns-in_err-file-clause-rest : goal.returns-in_err-file-clause-rest
returns-in_err-file-clause-rest g c = stays_then g.K.Keeper c.in_ok-in_box.ensures.rest (stays_passed g.K.Keeper c.from_residual-in_err-file.result c.from_residual-in_err-file.ensures.1 c.in_err-file.ensures.rest)

pub returns-clause-view : goal.returns-clause-view
returns-clause-view g c s kept =
    record {
      in_box = c.in_ok-in_box.ensures.value s kept.means kept.sound (c.in_ok-file.ensures.rest.honest kept.is_honest);
      file = c.in_ok-file.ensures.value s (c.in_ok-in_box.ensures.rest.same s kept.means) kept.sound kept.is_honest;
    }

pub returns-clause-staged : goal.returns-clause-staged
returns-clause-staged g c = grind arith

pub returns-in_err-file-clause-staged : goal.returns-in_err-file-clause-staged
returns-in_err-file-clause-staged g c = grind arith
