use Rattle.std.proofs.Common.{arith}
use Rattle.sockets.proofs.book.Book.watch.Goals as goal

pub part_none-self : goal.part_none-self
part_none-self g c = grind arith

pub part_some-self : goal.part_some-self
part_some-self g c = grind arith
