use Rattle.sqltables.specs.Schema.{v2, second_version}
use Rattle.sqltables.specs.Tables.{tables_of}
use Rattle.sqlkeeper.proofs.questions.KeyOfQuestion.put.Goals as goal

pub returns-clause-found : goal.returns-clause-found
returns-clause-found g c s pends sound inside clean = c.key.ensures.found v2 (tables_of s) second_version pends inside clean

pub returns-clause-still : goal.returns-clause-still
returns-clause-still g c s pends = c.key.ensures.still v2 (tables_of s) second_version pends
