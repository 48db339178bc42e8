use Rattle.std.proofs.Common.{Err}
use Rattle.shelf.proofs.StayLemmas.{restaged, stays, still_holds}
use Rattle.shelf.proofs.shelf_keeps.ShelfKeeper.stage.Goals as goal

pub returns-in-Ok-clause-rest : goal.returns-in-Ok-clause-rest
returns-in-Ok-clause-rest c = restaged c.args.self.now _ _

pub returns-in-Err-clause-rest : goal.returns-in-Err-clause-rest
returns-in-Err-clause-rest c =
    stays c.args.self.now c.count.new.self (Err c.count.result) (λ s held. c.count.ensures.same s (still_holds c.args.self.now _ s held)) (record { err = c.count.ensures.rose; ok = tt }) c.count.ensures.result
