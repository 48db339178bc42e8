use Rattle.std.proofs.Common.{arith}
use Rattle.sqltables.proofs.reading.read_digest.Goals as goal

pub returns-in-Ok : goal.returns-in-Ok
returns-in-Ok c = grind arith
