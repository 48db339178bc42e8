use Rattle.std.proofs.Common.{arith}
use Rattle.shelf.proofs.cache.Cache.size_of.Goals as goal

pub returns-in_err-last : goal.returns-in_err-last
returns-in_err-last c = grind arith
