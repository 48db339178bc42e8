use Rattle.std.proofs.Common.{arith}
use Rattle.shelf.proofs.StayLemmas.{untouched}
use Rattle.shelf.proofs.shelf_keeps.ShelfKeeper.may_use.Goals as goal

pub returns-clause-rest : goal.returns-clause-rest
returns-clause-rest c = untouched c.args.self.now _

pub returns-clause-value : goal.returns-clause-value
returns-clause-value c = grind arith
