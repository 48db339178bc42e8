use Rattle.std.proofs.Common.{arith}
use Rattle.lists.proofs.PassedOn.{passed_on}
use Rattle.lists.proofs.publishes.PublisherKeeper.stage.Goals as goal

pub returns-clause-rest : goal.returns-clause-rest
returns-clause-rest g c = passed_on g.K.Keeper g.S.Sheet.text c.args.self.now c.stage.new.self c.stage.result c.stage.ensures.rest

pub returns-clause-added : goal.returns-clause-added
returns-clause-added g c = grind arith
