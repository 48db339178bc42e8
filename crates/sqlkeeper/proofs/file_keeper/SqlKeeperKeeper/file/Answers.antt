use Rattle.std.proofs.Common.{arith}
use Rattle.boxes.specs.State.{Place}
use Rattle.sqlkeeper.proofs.NotText.{no_file_in, no_file_named, none_at}
use Rattle.sqlkeeper.proofs.file_keeper.SqlKeeperKeeper.file.Goals as goal

pub returns-in_default-clause-value : goal.returns-in_default-clause-value
returns-in_default-clause-value g c s keeps sound clean =
    let place : Place = record { box = c.args.in_box.now; name = c.args.name.now } in none_at s place (no_file_in s sound place c.in_default.ensures.cases.0)

pub returns-in_default-from_utf8-clause-value : goal.returns-in_default-from_utf8-clause-value
returns-in_default-from_utf8-clause-value g c s keeps sound clean =
    let place : Place = record { box = c.args.in_box.now; name = c.args.name.now } in none_at s place (no_file_named s sound place c.in_default-from_utf8.ensures.cases.0)

pub returns-clause-rest : goal.returns-clause-rest
returns-clause-rest g c = grind arith

pub returns-clause-staged : goal.returns-clause-staged
returns-clause-staged g c = grind arith

pub returns-clause-value : goal.returns-clause-value
returns-clause-value g c = grind arith

pub returns-in_default-clause-rest : goal.returns-in_default-clause-rest
returns-in_default-clause-rest g c = grind arith

pub returns-in_default-from_utf8-clause-rest : goal.returns-in_default-from_utf8-clause-rest
returns-in_default-from_utf8-clause-rest g c = grind arith
