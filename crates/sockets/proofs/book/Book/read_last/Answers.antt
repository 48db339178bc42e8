use Rattle.std.proofs.Common.{arith}
use Rattle.sockets.proofs.book.Book.read_last.Goals as goal

pub throw_away-requires : goal.throw_away-requires
throw_away-requires g c = grind arith
