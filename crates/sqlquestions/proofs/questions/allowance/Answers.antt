use Rattle.std.proofs.Common.{arith}
use Rattle.sqlquestions.proofs.questions.allowance.Goals as goal

pub returns-clause-found : goal.returns-clause-found
returns-clause-found g c = grind arith

pub returns-clause-rest : goal.returns-clause-rest
returns-clause-rest g c = grind arith

pub returns-in-Some-new-clause-found : goal.returns-in-Some-new-clause-found
returns-in-Some-new-clause-found g c = grind arith

pub returns-in_default-clause-rest : goal.returns-in_default-clause-rest
returns-in_default-clause-rest g c = grind arith
