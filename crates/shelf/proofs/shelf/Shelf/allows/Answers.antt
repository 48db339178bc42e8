use Rattle.std.proofs.Common.{arith}
use Rattle.shelf.proofs.shelf.Shelf.allows.Goals as goal

pub returns-in-Some : goal.returns-in-Some
returns-in-Some c = grind arith
