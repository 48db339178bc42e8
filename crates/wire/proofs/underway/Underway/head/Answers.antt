use Rattle.std.proofs.Common.{ap, take}
use Rattle.wire.proofs.underway.Underway.head.Goals as goal

pub returns : goal.returns
returns c = ap (take c.args.self.now.len) c.deref.ensures
