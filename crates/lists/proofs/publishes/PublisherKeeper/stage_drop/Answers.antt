use Rattle.lists.proofs.PassedOn.{passed_on}
use Rattle.lists.proofs.publishes.PublisherKeeper.stage_drop.Goals as goal

pub returns-clause-rest : goal.returns-clause-rest
returns-clause-rest g c = passed_on g.K.Keeper g.S.Sheet.text c.args.self.now c.stage_drop.new.self c.stage_drop.result c.stage_drop.ensures.rest
