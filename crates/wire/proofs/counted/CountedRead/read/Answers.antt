use Rattle.std.proofs.Common.{arith}
use Rattle.wire.proofs.counted.CountedRead.read.Goals as goal

pub returns-else-is_err-clause-count : goal.returns-else-is_err-clause-count
returns-else-is_err-clause-count g c = grind arith

pub returns-then-is_err-clause-bytes : goal.returns-then-is_err-clause-bytes
returns-then-is_err-clause-bytes g c = grind arith

pub returns-then-is_err-clause-count : goal.returns-then-is_err-clause-count
returns-then-is_err-clause-count g c = grind arith
