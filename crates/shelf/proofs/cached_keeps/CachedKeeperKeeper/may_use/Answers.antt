use Rattle.std.proofs.Common.{arith}
use Rattle.shelf.proofs.Passed.{recalled}
use Rattle.shelf.proofs.cached_keeps.CachedKeeperKeeper.may_use.Goals as goal

pub returns-then-knows_use-clause-rest : goal.returns-then-knows_use-clause-rest
returns-then-knows_use-clause-rest g c = recalled g.K.Keeper c.args.self.now _

pub returns-clause-rest : goal.returns-clause-rest
returns-clause-rest g c = grind arith

pub returns-clause-sure : goal.returns-clause-sure
returns-clause-sure g c = grind arith

pub returns-clause-value : goal.returns-clause-value
returns-clause-value g c = grind arith

pub returns-then-knows_use-clause-value : goal.returns-then-knows_use-clause-value
returns-then-knows_use-clause-value g c = grind arith
