use Rattle.std.proofs.Common.{refl}
use Rattle.wire.specs.Waiting.{waiting}
use Rattle.wire.proofs.backlog.Backlog.allow.Goals as goal

pub returns-clause-waiting : goal.returns-clause-waiting
unfolding waiting
returns-clause-waiting c = refl
