use Rattle.std.proofs.Common.{◌≡◌, refl, rules, ◌∙◌, arith}
use Rattle.sqltables.specs.Schema.{v2, second_version}
use Rattle.sqltables.specs.Tables.{tables_of}
use Rattle.sqlkeeper.proofs.questions.NextNumberQuestion.put.Goals as goal

pub returns-clause-found : goal.returns-clause-found
returns-clause-found g c s pends sound inside clean =
    let wide : c.from.result ≡ c.in_ok-next_number.field-0 = search rules in
    wide ∙ c.in_ok-next_number.ensures.found v2 (tables_of s) s.receipts second_version pends refl inside clean

pub returns-clause-still : goal.returns-clause-still
returns-clause-still g c s pends = c.in_ok-next_number.ensures.still v2 (tables_of s) second_version pends

pub returns-clause-rest : goal.returns-clause-rest
returns-clause-rest g c = grind arith
