use Rattle.std.proofs.Common.{arith}
use Rattle.shelf.proofs.Passed.{passed_on}
use Rattle.shelf.proofs.cached_keeps.CachedKeeperKeeper.stage_drop.Goals as goal

pub returns-clause-rest : goal.returns-clause-rest
returns-clause-rest g c = passed_on g.K.Keeper c.args.self.now _ c.stage_drop.result c.or_forget.result c.stage_drop.ensures.rest c.or_forget.ensures.same c.or_forget.ensures.stays

pub returns-clause-empty : goal.returns-clause-empty
returns-clause-empty g c = grind arith

pub returns-clause-sure : goal.returns-clause-sure
returns-clause-sure g c = grind arith
