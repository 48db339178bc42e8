use Rattle.std.proofs.Common.{arith}
use Rattle.shelf.proofs.Passed.{passed_on}
use Rattle.shelf.proofs.cached_keeps.CachedKeeperKeeper.has_limit.Goals as goal

pub returns-clause-rest : goal.returns-clause-rest
returns-clause-rest g c = passed_on g.K.Keeper c.args.self.now _ c.has_limit.result c.or_forget.result c.has_limit.ensures.rest c.or_forget.ensures.same c.or_forget.ensures.stays

pub returns-clause-sure : goal.returns-clause-sure
returns-clause-sure g c = grind arith

pub returns-clause-value : goal.returns-clause-value
returns-clause-value g c = grind arith
