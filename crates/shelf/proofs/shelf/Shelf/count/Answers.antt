use Rattle.std.proofs.Common.{arith}
use Rattle.shelf.proofs.shelf.Shelf.count.Goals as goal

pub returns-clause-same : goal.returns-clause-same
returns-clause-same c = grind arith
