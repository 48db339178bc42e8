use Rattle.std.proofs.Common.{rules}
use Rattle.wire.specs.Waiting.{taken}
use Rattle.wire.proofs.backlog.Backlog.taken.Goals as goal

pub returns : goal.returns
unfolding taken
returns c = search rules
