use Rattle.std.proofs.Common.{arith}
use Rattle.shelf.proofs.cache.make_room.Goals as goal

pub returns-then-len-ge-MOST_KEPT : goal.returns-then-len-ge-MOST_KEPT
returns-then-len-ge-MOST_KEPT g c = grind arith
