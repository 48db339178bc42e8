use Rattle.std.proofs.Common.{rules}
use Rattle.wire.specs.Waiting.{waiting}
use Rattle.wire.proofs.backlog.Backlog.waiting.Goals as goal

pub returns : goal.returns
unfolding waiting
returns c = search rules
