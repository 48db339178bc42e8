use Rattle.std.proofs.Common.{refl, arith}
use Rattle.sqlkeeper.proofs.NotText.{no_box}
use Rattle.sqlkeeper.proofs.StateViews.{nothing_found}
use Rattle.sqlkeeper.proofs.file_keeper.SqlKeeperKeeper.sizes.Goals as goal

pub returns-in_default-clause-value : goal.returns-in_default-clause-value
returns-in_default-clause-value g c s keeps sound clean = nothing_found s c.args.in_box.now (record { used = 0; count = 0 }) sound (no_box s sound c.args.in_box.now c.in_default.ensures.cases.0) refl refl

pub returns-clause-staged : goal.returns-clause-staged
returns-clause-staged g c = grind arith

pub returns-clause-sure : goal.returns-clause-sure
returns-clause-sure g c = grind arith

pub returns-clause-value : goal.returns-clause-value
returns-clause-value g c = grind arith

pub returns-in_default-clause-rest : goal.returns-in_default-clause-rest
returns-in_default-clause-rest g c = grind arith
