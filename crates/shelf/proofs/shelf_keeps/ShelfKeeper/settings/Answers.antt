use Rattle.shelf.proofs.StayLemmas.{untouched}
use Rattle.shelf.proofs.shelf_keeps.ShelfKeeper.settings.Goals as goal

pub returns-clause-rest : goal.returns-clause-rest
returns-clause-rest c = untouched c.args.self.now _
