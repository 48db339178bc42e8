use Rattle.std.proofs.Common.{arith}
use Rattle.shelf.proofs.StayLemmas.{stays}
use Rattle.shelf.proofs.shelf_keeps.ShelfKeeper.key.Goals as goal

pub returns-clause-rest : goal.returns-clause-rest
returns-clause-rest c = stays c.args.self.now c.find_key.new.self c.find_key.result c.find_key.ensures.rest.same c.find_key.ensures.rest.count c.find_key.ensures.rest.fault

pub returns-clause-value : goal.returns-clause-value
returns-clause-value c = grind arith
