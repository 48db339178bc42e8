use Rattle.std.proofs.Common.{arith}
use Rattle.sockets.proofs.book.Book.note_bytes.Goals as goal

pub part_some-self : goal.part_some-self
part_some-self g c = grind arith
