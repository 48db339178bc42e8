use Rattle.std.proofs.Common.{refl}
use Rattle.lists.proofs.PassedOn.{passed_group, passed_sure}
use Rattle.lists.proofs.publishes.PublisherKeeper.stage_put.Goals as goal

pub returns-clause-sure : goal.returns-clause-sure
returns-clause-sure g c = passed_sure g.K.Keeper g.S.Sheet.text c.args.self.now c.stage_put.new.self c.args.self.now.held c.stage_put.ensures.sure refl

pub returns-clause-group : goal.returns-clause-group
returns-clause-group g c = passed_group g.K.Keeper c.args.self.now c.stage_put.new.self c.stage_put.ensures.group c.stage_put.ensures.sure.honest
