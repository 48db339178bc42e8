use Rattle.std.proofs.Common.{arith}
use Rattle.lists.proofs.PassedOn.{passed_on}
use Rattle.lists.proofs.publishes.PublisherKeeper.box_row.Goals as goal

pub returns-clause-rest : goal.returns-clause-rest
returns-clause-rest g c = passed_on g.K.Keeper g.S.Sheet.text c.args.self.now c.box_row.new.self c.box_row.result c.box_row.ensures.rest

pub returns-clause-value : goal.returns-clause-value
returns-clause-value g c = grind arith
