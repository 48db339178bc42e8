use Rattle.std.proofs.Common.{length, ap}
use Rattle.sockets.proofs.Slotted.{if_free, if_same}
use Rattle.sockets.proofs.held.ahead_len.Goals as goal

pub returns-in-Some : goal.returns-in-Some
returns-in-Some g c = if_same _ c.in-Some.seat.now _ c.in-Some.ensures (ap length c.ahead.ensures)

pub returns-in-None : goal.returns-in-None
returns-in-None g c = if_free _ _ c.in-None.ensures
