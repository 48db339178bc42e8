use Rattle.std.proofs.Common.{arith}
use Rattle.shelf.proofs.cache.Cache.totals.Goals as goal

pub returns : goal.returns
returns c = grind arith

pub returns-in_err-get : goal.returns-in_err-get
returns-in_err-get c = grind arith
