use Rattle.peers.proofs.Counted.{counts_opened, counts_unready}
use Rattle.peers.proofs.counting.CountingListener.open.Goals as goal

pub returns-in-Ok-clause-opened : goal.returns-in-Ok-clause-opened
returns-in-Ok-clause-opened g c = λ log x. counts_opened g.L.Listener.told c.args.self.now.inner c.open.new.self _ _ log _ _ (c.in-Ok.ensures.opened log) _ c.saturating_add-self.ensures x

pub returns-in-Err-clause-unready : goal.returns-in-Err-clause-unready
returns-in-Err-clause-unready g c = λ log x. counts_unready g.L.Listener.told c.args.self.now.inner c.open.new.self _ _ log _ _ (c.in-Err.ensures.unready log) x
