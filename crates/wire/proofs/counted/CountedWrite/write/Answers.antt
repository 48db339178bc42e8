use Rattle.std.proofs.Common.{arith}
use Rattle.wire.proofs.counted.CountedWrite.write.Goals as goal

pub returns-else-n-eq0-clause-counts : goal.returns-else-n-eq0-clause-counts
returns-else-n-eq0-clause-counts g c = grind arith

pub returns-in-Err-clause-bytes : goal.returns-in-Err-clause-bytes
returns-in-Err-clause-bytes g c = grind arith

pub returns-then-not-is_empty-clause-bound : goal.returns-then-not-is_empty-clause-bound
returns-then-not-is_empty-clause-bound g c = grind arith

pub returns-then-not-is_empty-clause-bytes : goal.returns-then-not-is_empty-clause-bytes
returns-then-not-is_empty-clause-bytes g c = grind arith

pub returns-then-not-is_empty-clause-counts : goal.returns-then-not-is_empty-clause-counts
returns-then-not-is_empty-clause-counts g c = grind arith
