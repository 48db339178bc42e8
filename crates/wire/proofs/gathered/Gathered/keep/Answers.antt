use Rattle.std.proofs.Common.{arith}
use Rattle.wire.proofs.gathered.Gathered.keep.Goals as goal

pub returns-else-ne-clause-kept : goal.returns-else-ne-clause-kept
returns-else-ne-clause-kept g c = grind arith

pub returns-then-ne-clause-kept : goal.returns-then-ne-clause-kept
returns-then-ne-clause-kept g c = grind arith
