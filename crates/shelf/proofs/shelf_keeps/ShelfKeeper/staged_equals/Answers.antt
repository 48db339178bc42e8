use Rattle.std.proofs.Common.{arith}
use Rattle.shelf.proofs.shelf_keeps.ShelfKeeper.staged_equals.Goals as goal

pub returns-clause-rest : goal.returns-clause-rest
returns-clause-rest c = grind arith

pub returns-clause-staged : goal.returns-clause-staged
returns-clause-staged c = grind arith

pub returns-clause-value : goal.returns-clause-value
returns-clause-value c = grind arith
