use Rattle.std.proofs.Common.{arith}
use Rattle.wire.proofs.feed.Feed.piece.Goals as goal

pub returns : goal.returns
returns g c = grind arith

pub taken-requires : goal.taken-requires
taken-requires g c = grind arith
