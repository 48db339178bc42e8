use Rattle.shelf.proofs.StayLemmas.{restaged}
use Rattle.shelf.proofs.shelf_keeps.ShelfKeeper.stage_begin.Goals as goal

pub returns-clause-rest : goal.returns-clause-rest
returns-clause-rest c = restaged c.args.self.now _ _
