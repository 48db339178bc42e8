use Rattle.std.proofs.Common.{◌≡◌, subst}
use Rattle.std.specs.Prelude.{IfOk, option_map}
use Rattle.boxes.specs.Rows.{settings_of}
use Rattle.sqltables.specs.Schema.{v2, second_version}
use Rattle.sqltables.specs.Tables.{tables_of}
use Rattle.sqltables.specs.OneState.{known_box}
use Rattle.sqlkeeper.proofs.StateViews.{box_found}
use Rattle.sqlkeeper.proofs.questions.BoxOfQuestion.put.Goals as goal

pub returns-clause-found : goal.returns-clause-found
returns-clause-found g c s pends sound inside clean =
    subst (λ b. IfOk c.box_row.result (λ row. option_map settings_of row ≡ b)) (box_found s c.args.self.now.name.now)
    (c.box_row.ensures.found v2 (tables_of s) second_version pends (known_box s sound c.args.self.now.name.now) inside clean)

pub returns-clause-still : goal.returns-clause-still
returns-clause-still g c s pends = c.box_row.ensures.still v2 (tables_of s) second_version pends
