use Rattle.std.proofs.Common.{arith}
use Rattle.shelf.proofs.shelf.Shelf.set_allowance.Goals as goal

pub returns-in-Some-clause-made : goal.returns-in-Some-clause-made
returns-in-Some-clause-made c = grind arith

pub returns-in_default-clause-made : goal.returns-in_default-clause-made
returns-in_default-clause-made c = grind arith
