use Rattle.std.proofs.Common.{arith}
use Rattle.sqlaudit.proofs.opening.examine.Goals as goal

pub returns-clause-found : goal.returns-clause-found
returns-clause-found g c = grind arith

pub returns-clause-rest : goal.returns-clause-rest
returns-clause-rest g c = grind arith
