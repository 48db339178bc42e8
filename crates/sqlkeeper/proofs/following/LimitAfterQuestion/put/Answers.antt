use Rattle.std.proofs.Common.{arith}
use Rattle.sqltables.specs.Tables.{tables_of}
use Rattle.sqlkeeper.proofs.following.LimitAfterQuestion.put.Goals as goal

pub returns-clause-still : goal.returns-clause-still
returns-clause-still g c s pends = c.limit_after.ensures.still (tables_of s) pends

pub returns-clause-found : goal.returns-clause-found
returns-clause-found g c = grind arith
