use Rattle.std.proofs.Common.{subst, sym}
use Rattle.std.specs.Prelude.{◌↔◌, IfOk, IsTrue}
use Rattle.std.proofs.lemmas.Bool.{both_ways, false≢true}
use Rattle.boxes.specs.Rules.{HasBytes}
use Rattle.office.proofs.Questions.{stays_still}
use Rattle.office.proofs.office.Office.stand.Goals as goal

pub returns-then-not-may_stand-clause-rest : goal.returns-then-not-may_stand-clause-rest
returns-then-not-may_stand-clause-rest g c = stays_still g.K.Keeper

pub returns-clause-rest : goal.returns-clause-rest
returns-clause-rest g c = c.staged_equals.ensures.rest

pub returns-clause-value : goal.returns-clause-value
returns-clause-value g c s u kept is receipt staged =
    subst (λ at. IfOk c.staged_equals.result (λ b. IsTrue b ↔ HasBytes s at u.bytes)) (sym is) (c.staged_equals.ensures.value u.bytes staged.staged s kept.means kept.sound kept.is_honest)

pub returns-then-not-may_stand-clause-value : goal.returns-then-not-may_stand-clause-value
returns-then-not-may_stand-clause-value g c s u kept is receipt staged =
    (λ no. absurd (false≢true no), λ stands. absurd (both_ways c.may_stand.result c.if-not-may_stand.true (c.may_stand.ensures s u kept.sound receipt staged.length_is staged.digest stands)))
