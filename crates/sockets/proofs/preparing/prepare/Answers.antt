use Rattle.std.proofs.Common.{arith}
use Rattle.sockets.proofs.preparing.prepare.Goals as goal

pub returns-clause-free : goal.returns-clause-free
returns-clause-free g c = grind arith

pub returns-clause-room : goal.returns-clause-room
returns-clause-room g c = grind arith
