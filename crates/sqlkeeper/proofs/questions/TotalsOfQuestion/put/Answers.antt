use Rattle.std.proofs.lemmas.Result.{IfOk-weaker}
use Rattle.sqltables.specs.Schema.{v2, second_version}
use Rattle.sqltables.specs.Tables.{tables_of}
use Rattle.sqlkeeper.proofs.StateViews.{totals_found}
use Rattle.sqlkeeper.proofs.questions.TotalsOfQuestion.put.Goals as goal

pub returns-clause-found : goal.returns-clause-found
returns-clause-found g c s pends sound inside clean =
    IfOk-weaker c.totals.result _ _ (λ t h. totals_found s c.args.self.now.name.now t sound h) (c.totals.ensures.found v2 (tables_of s) second_version pends inside clean)

pub returns-clause-still : goal.returns-clause-still
returns-clause-still g c s pends = c.totals.ensures.still v2 (tables_of s) second_version pends
