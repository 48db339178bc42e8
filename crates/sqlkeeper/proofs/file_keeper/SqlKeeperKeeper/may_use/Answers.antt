use Rattle.sqlkeeper.proofs.NotText.{no_limit}
use Rattle.std.specs.Prelude.{◌↔◌, IsTrue, IfOk}
use Rattle.std.proofs.Common.{refl, subst, arith}
use Rattle.boxes.specs.Limits.{MayUse}
use Rattle.sqlkeeper.proofs.file_keeper.SqlKeeperKeeper.may_use.Goals as goal

pub returns-in_default-clause-value : goal.returns-in_default-clause-value
returns-in_default-clause-value g c s keeps sound clean =
    (λ t limited. absurd (no_limit s sound c.args.id.now limited.0 c.in_default.ensures.cases.0 limited.1), λ may. refl)

pub returns-clause-value : goal.returns-clause-value
returns-clause-value g c s keeps sound clean =
    subst (λ n. IfOk c.answer.result (λ x. IsTrue x ↔ MayUse s n c.args.in_box.now)) c.in-Ok.ensures.cases.0 (c.answer.ensures.value s keeps sound clean)

pub returns-clause-staged : goal.returns-clause-staged
returns-clause-staged g c = grind arith

pub returns-clause-sure : goal.returns-clause-sure
returns-clause-sure g c = grind arith

pub returns-in_default-clause-rest : goal.returns-in_default-clause-rest
returns-in_default-clause-rest g c = grind arith
