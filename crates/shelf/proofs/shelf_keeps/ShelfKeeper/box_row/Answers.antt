use Rattle.std.proofs.Common.{arith}
use Rattle.shelf.proofs.StayLemmas.{stays}
use Rattle.shelf.proofs.shelf_keeps.ShelfKeeper.box_row.Goals as goal

pub returns-clause-rest : goal.returns-clause-rest
returns-clause-rest c = stays c.args.self.now c.find_box.new.self c.find_box.result c.find_box.ensures.rest.same c.find_box.ensures.rest.count c.find_box.ensures.rest.fault

pub returns-clause-value : goal.returns-clause-value
returns-clause-value c = grind arith
