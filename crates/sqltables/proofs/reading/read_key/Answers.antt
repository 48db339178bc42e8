use Rattle.std.proofs.Common.{arith}
use Rattle.sqltables.proofs.reading.read_key.Goals as goal

pub returns : goal.returns
returns c = grind arith
