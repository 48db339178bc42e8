use Rattle.std.proofs.Common.{arith}
use Rattle.sockets.proofs.book.Book.wait.Goals as goal

pub events-preserved : goal.events-preserved
events-preserved g c = grind arith
