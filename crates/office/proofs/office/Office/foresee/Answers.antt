use Rattle.std.proofs.Common.{arith}
use Rattle.sigtext.specs.declared.refusal.Refusal.TheVariants as rule
use Rattle.links.proofs.LinkRules.{method_first}
use Rattle.links.proofs.Texts.{clash}
use Rattle.office.specs.Announcing.{request_with}
use Rattle.office.proofs.Deciding.{head_first}
use Rattle.office.proofs.KeeperCalls.{looks_still}
use Rattle.office.proofs.office.Office.foresee.Goals as goal

pub returns-in_default-clause-foresees : goal.returns-in_default-clause-foresees
returns-in_default-clause-foresees g c s body kept long other now =
    let r = request_with c.args.message.now body in
    head_first s r now rule.Method (method_first r (λ is. clash _ c.in_default.ensures.none is))

pub returns-in-Ok-clause-foresees : goal.returns-in-Ok-clause-foresees
returns-in-Ok-clause-foresees g c s body kept long =
    let is = c.in-Ok.ensures.ok body in
    c.foresee_link.ensures.foresees s body is.0 kept long is.1

pub returns-in-Ok-clause-readable : goal.returns-in-Ok-clause-readable
returns-in-Ok-clause-readable g c body =
    let is = c.in-Ok.ensures.ok body in
    c.foresee_link.ensures.readable body is.0 is.1

pub returns-in-Err-clause-foresees : goal.returns-in-Err-clause-foresees
returns-in-Err-clause-foresees g c s body kept long other now =
    let r = request_with c.args.message.now body in
    head_first s r now c.in-Err.refusal (c.in-Err.ensures.err other body)

pub returns-in-Err-clause-readable : goal.returns-in-Err-clause-readable
returns-in-Err-clause-readable g c body again = c.in-Err.ensures.readable again body

pub returns-in_default-clause-readable : goal.returns-in_default-clause-readable
returns-in_default-clause-readable g c = grind arith

pub returns-in_default-clause-looks : goal.returns-in_default-clause-looks
returns-in_default-clause-looks g c = looks_still

pub returns-in-Err-clause-looks : goal.returns-in-Err-clause-looks
returns-in-Err-clause-looks g c = looks_still

pub returns-in-Ok-clause-looks : goal.returns-in-Ok-clause-looks
returns-in-Ok-clause-looks g c = c.foresee_link.ensures.looks
