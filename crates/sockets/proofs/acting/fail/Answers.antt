use Rattle.wire.specs.Crowds.{same}
use Rattle.sockets.proofs.acting.fail.Goals as goal

pub returns-then-index-slots-clause-changes : goal.returns-then-index-slots-clause-changes
returns-then-index-slots-clause-changes g c = same
