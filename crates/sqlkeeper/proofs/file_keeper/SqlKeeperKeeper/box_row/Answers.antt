use Rattle.sqlkeeper.proofs.NotText.{no_box}
use Rattle.std.specs.FinMap.{get}
use Rattle.std.specs.Prelude.{◌≡◌, option_map, IfOk}
use Rattle.std.proofs.Common.{subst, arith}
use Rattle.boxes.specs.Rows.{settings_of}
use Rattle.sqlkeeper.proofs.file_keeper.SqlKeeperKeeper.box_row.Goals as goal

pub returns-in_default-clause-value : goal.returns-in_default-clause-value
returns-in_default-clause-value g c s keeps sound clean = no_box s sound c.args.name.now c.in_default.ensures.cases.0

pub returns-clause-value : goal.returns-clause-value
returns-clause-value g c s keeps sound clean =
    subst (λ n. IfOk c.answer.result (λ x. option_map settings_of x ≡ get s.boxes n)) c.in-Ok.ensures.cases.0 (c.answer.ensures.value s keeps sound clean)

pub returns-clause-staged : goal.returns-clause-staged
returns-clause-staged g c = grind arith

pub returns-in_default-clause-rest : goal.returns-in_default-clause-rest
returns-in_default-clause-rest g c = grind arith
