use Rattle.std.proofs.Common.{arith}
use Rattle.lists.proofs.PassedOn.{passed_on}
use Rattle.lists.proofs.publishes.PublisherKeeper.next_number.Goals as goal

pub returns-clause-rest : goal.returns-clause-rest
returns-clause-rest g c = passed_on g.K.Keeper g.S.Sheet.text c.args.self.now c.next_number.new.self c.next_number.result c.next_number.ensures.rest

pub returns-clause-value : goal.returns-clause-value
returns-clause-value g c = grind arith
