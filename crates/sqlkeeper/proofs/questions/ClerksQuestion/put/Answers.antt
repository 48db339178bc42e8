use Rattle.std.proofs.Common.{refl}
use Rattle.sqltables.specs.Schema.{v2, second_version}
use Rattle.sqltables.specs.Tables.{tables_of}
use Rattle.sqlkeeper.proofs.questions.ClerksQuestion.put.Goals as goal

pub returns-clause-found : goal.returns-clause-found
returns-clause-found g c s pends sound inside clean = c.clerks.ensures.found v2 (tables_of s) s second_version pends refl inside clean

pub returns-clause-still : goal.returns-clause-still
returns-clause-still g c s pends = c.clerks.ensures.still v2 (tables_of s) second_version pends
