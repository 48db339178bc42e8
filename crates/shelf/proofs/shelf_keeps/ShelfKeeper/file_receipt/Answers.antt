use Rattle.std.proofs.Common.{arith}
use Rattle.shelf.proofs.StayLemmas.{stays}
use Rattle.shelf.proofs.shelf_keeps.ShelfKeeper.file_receipt.Goals as goal

pub returns-clause-rest : goal.returns-clause-rest
returns-clause-rest c = stays c.args.self.now c.find_file_receipt.new.self c.find_file_receipt.result c.find_file_receipt.ensures.rest.same c.find_file_receipt.ensures.rest.count c.find_file_receipt.ensures.rest.fault

pub returns-clause-value : goal.returns-clause-value
returns-clause-value c = grind arith
