use Rattle.std.proofs.Common.{arith}
use Rattle.shelf.proofs.StayLemmas.{stays}
use Rattle.shelf.proofs.shelf_keeps.ShelfKeeper.receipts.Goals as goal

pub returns-clause-rest : goal.returns-clause-rest
returns-clause-rest c = stays c.args.self.now c.find_receipts.new.self c.find_receipts.result c.find_receipts.ensures.rest.same c.find_receipts.ensures.rest.count c.find_receipts.ensures.rest.fault

pub returns-clause-value : goal.returns-clause-value
returns-clause-value c = grind arith
