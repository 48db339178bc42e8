use Rattle.std.proofs.Common.{◌≡◌}
use Rattle.std.specs.Io.KnownBytes.{append_known, prepend_known}
use Rattle.wire.specs.Gathering.{ahead_in}
use Rattle.wire.specs.Outgoing.{waits_out}
use Rattle.sockets.specs.Moving.{Moves}
use Rattle.sockets.proofs.sockets.SocketsCrowdGatheredEndOutboxEnd.next.Given as goal

abbrev pub invariant-actions : goal.invariant-actions
invariant-actions g l =
    Moves g.L.Listener.told g.L.Listener.are_ends (λ x. prepend_known (ahead_in x) (g.L.End.Read.remaining x.inner)) (λ x. append_known (g.L.End.Write.contents x.inner) (waits_out x)) l.fn.self.gate l.self.gate l.fn.slots l.slots
    × (l.self.turns ≡ l.fn.self.turns)
