use Rattle.std.proofs.Common.{arith}
use Rattle.wire.proofs.feed.Feed.next.Goals as goal

pub find-found-requires : goal.find-found-requires
find-found-requires g c = grind arith

pub returns-clause-count : goal.returns-clause-count
returns-clause-count g c = grind arith

pub returns-in-Body-clause-step : goal.returns-in-Body-clause-step
returns-in-Body-clause-step g c = grind arith

pub returns-then-is_err-clause-step : goal.returns-then-is_err-clause-step
returns-then-is_err-clause-step g c = grind arith
