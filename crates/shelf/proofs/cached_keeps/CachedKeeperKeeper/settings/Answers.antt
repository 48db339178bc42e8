use Rattle.std.proofs.Common.{arith}
use Rattle.shelf.proofs.Passed.{recalled}
use Rattle.shelf.proofs.cached_keeps.CachedKeeperKeeper.settings.Goals as goal

pub returns-in-Some-clause-rest : goal.returns-in-Some-clause-rest
returns-in-Some-clause-rest g c = recalled g.K.Keeper c.args.self.now _

pub returns-clause-rest : goal.returns-clause-rest
returns-clause-rest g c = grind arith

pub returns-clause-value : goal.returns-clause-value
returns-clause-value g c = grind arith

pub returns-in-Some-clause-value : goal.returns-in-Some-clause-value
returns-in-Some-clause-value g c = grind arith
