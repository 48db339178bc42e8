use Rattle.std.proofs.Common.{arith}
use Rattle.sockets.proofs.gate.seat_in.Goals as goal

pub unreachable-requires : goal.unreachable-requires
unreachable-requires g c =
    let free = c.requires.free in c.in-Err.ensures.full.2 free.0 free.1 free.2

pub returns-clause-within : goal.returns-clause-within
returns-clause-within g c = grind arith

pub unreachable-unreachable : goal.unreachable-unreachable
unreachable-unreachable g c = grind arith
