use Rattle.std.proofs.Common.{arith}
use Rattle.shelf.proofs.Passed.{passed_on}
use Rattle.shelf.proofs.cached_keeps.CachedKeeperKeeper.stage.Goals as goal

pub returns-clause-rest : goal.returns-clause-rest
returns-clause-rest g c = passed_on g.K.Keeper c.args.self.now _ c.stage.result c.or_forget.result c.stage.ensures.rest c.or_forget.ensures.same c.or_forget.ensures.stays

pub returns-clause-added : goal.returns-clause-added
returns-clause-added g c = grind arith
