use Rattle.std.proofs.Common.{arith}
use Rattle.wire.proofs.outbox.is_passing.Goals as goal

pub returns-in_default : goal.returns-in_default
returns-in_default c = grind arith
