use Rattle.std.proofs.Common.{arith}
use Rattle.wire.proofs.feed.Feed.set_aside.Goals as goal

pub parted-requires-clause-reserved : goal.parted-requires-clause-reserved
parted-requires-clause-reserved g c = grind arith
