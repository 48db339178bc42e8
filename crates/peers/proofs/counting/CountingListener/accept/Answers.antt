use Rattle.peers.proofs.Counted.{counts_accepted, counts_missed}
use Rattle.peers.proofs.counting.CountingListener.accept.Goals as goal

pub returns-clause-came : goal.returns-clause-came
returns-clause-came g c = counts_accepted g.L.Listener.told c.args.self.now.inner c.accept.new.self _ _ c.accept.result c.accept.ensures.came

pub returns-clause-missed : goal.returns-clause-missed
returns-clause-missed g c = counts_missed g.L.Listener.told c.args.self.now.inner c.accept.new.self _ _ c.accept.result c.accept.ensures.missed
