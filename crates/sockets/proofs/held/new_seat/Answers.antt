use Rattle.std.proofs.Common.{arith}
use Rattle.sockets.proofs.held.new_seat.Goals as goal

pub returns-clause-reader : goal.returns-clause-reader
returns-clause-reader g c = grind arith

pub returns-clause-untouched : goal.returns-clause-untouched
returns-clause-untouched g c = grind arith

pub returns-clause-writer : goal.returns-clause-writer
returns-clause-writer g c = grind arith
