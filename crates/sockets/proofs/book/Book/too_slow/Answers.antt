use Rattle.std.proofs.Common.{arith}
use Rattle.sockets.proofs.book.Book.too_slow.Goals as goal

pub bounds-peer-items-index : goal.bounds-peer-items-index
bounds-peer-items-index g c = grind arith

pub offset_bounds-peer-items-index : goal.offset_bounds-peer-items-index
offset_bounds-peer-items-index g c = grind arith
