use Rattle.std.proofs.Common.{arith}
use Rattle.wire.proofs.outbox.Outbox.keep.Goals as goal

pub returns-clause-kept : goal.returns-clause-kept
returns-clause-kept g c = grind arith

pub returns-clause-refused : goal.returns-clause-refused
returns-clause-refused g c = grind arith
