use Rattle.std.proofs.lemmas.Result.{IfOk-weaker}
use Rattle.boxes.specs.Next.{text_in}
use Rattle.sqltables.specs.Schema.{v2, second_version}
use Rattle.sqltables.specs.Tables.{tables_of}
use Rattle.sqlkeeper.proofs.NextTexts.{next_file}
use Rattle.sqlkeeper.proofs.following.FileAfterQuestion.put.Goals as goal

pub returns-clause-found : goal.returns-clause-found
returns-clause-found g c s pends sound inside clean =
    IfOk-weaker c.file_after.result _ _ (λ found h. next_file s c.args.self.now.in_box.now c.args.self.now.after.now (text_in found) h) (c.file_after.ensures.found v2 (tables_of s) second_version pends inside clean)

pub returns-clause-still : goal.returns-clause-still
returns-clause-still g c s pends = c.file_after.ensures.still v2 (tables_of s) second_version pends
