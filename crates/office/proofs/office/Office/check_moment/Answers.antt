use Rattle.office.proofs.Judged.{inside}
use Rattle.std.proofs.Common.{refl, arith}
use Rattle.office.proofs.KeeperCalls.{looks_answered, looks_failed}
use Rattle.office.proofs.office.Office.check_moment.Goals as goal

pub returns-clause-admits : goal.returns-clause-admits
returns-clause-admits g c s r p k kept is signed =
    let begun = c.in-Ok.ensures.begun s r p kept is in
    inside s r c.args.now c.in-Ok.allowance p k signed begun c.check_window.result (c.check_window.ensures r p is)

pub returns-in_default-clause-admits : goal.returns-in_default-clause-admits
returns-in_default-clause-admits g c = grind arith

pub returns-in_default-clause-looks : goal.returns-in_default-clause-looks
returns-in_default-clause-looks g c = looks_failed c.in_default.ensures.rest c.allowance_of.ensures.staged refl

pub returns-clause-looks : goal.returns-clause-looks
returns-clause-looks g c = looks_answered c.in-Ok.ensures.rest c.allowance_of.ensures.staged
