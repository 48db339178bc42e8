use Rattle.std.proofs.Common.{arith}
use Rattle.shelf.proofs.shelf.Shelf.set_staged.Goals as goal

pub returns-clause-made : goal.returns-clause-made
returns-clause-made c = grind arith

pub returns-clause-same : goal.returns-clause-same
returns-clause-same c = grind arith
