use Rattle.peers.proofs.Counted.{counts_closed}
use Rattle.peers.proofs.counting.CountingListener.close.Goals as goal

pub returns : goal.returns
returns g c = record { closed = λ log x. counts_closed g.L.Listener.told c.args.self.now.inner c.close.new.self _ _ log c.args.seat (c.close.ensures.closed log) _ c.saturating_add-self.ensures x }
