use Rattle.std.proofs.Common.{arith}
use Rattle.sockets.proofs.book.Book.read.Goals as goal

pub overflow_sub-self : goal.overflow_sub-self
overflow_sub-self g c = grind arith
