use Rattle.std.proofs.Common.{arith}
use Rattle.sqlquestions.proofs.questions.east.Goals as goal

pub returns-clause-found : goal.returns-clause-found
returns-clause-found g c = grind arith

pub returns-clause-rest : goal.returns-clause-rest
returns-clause-rest g c = grind arith

pub returns-clause-still : goal.returns-clause-still
returns-clause-still g c = grind arith

pub returns-in-Ok-clause-found : goal.returns-in-Ok-clause-found
returns-in-Ok-clause-found g c = grind arith

pub returns-in_default-clause-found : goal.returns-in_default-clause-found
returns-in_default-clause-found g c = grind arith

pub returns-in_default-clause-rest : goal.returns-in_default-clause-rest
returns-in_default-clause-rest g c = grind arith
