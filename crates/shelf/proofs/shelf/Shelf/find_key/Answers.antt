use Rattle.std.proofs.Common.{arith}
use Rattle.shelf.proofs.shelf.Shelf.find_key.Goals as goal

pub returns-in-Ok-clause-rest : goal.returns-in-Ok-clause-rest
returns-in-Ok-clause-rest c = grind arith

pub returns-in-Ok-clause-value : goal.returns-in-Ok-clause-value
returns-in-Ok-clause-value c = grind arith
