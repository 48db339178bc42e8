use Rattle.std.proofs.Common.{arith}
use Rattle.std.proofs.lemmas.Grind.{common_steps}
use Rattle.wire.proofs.standing.Standing.parted.Goals as goal

pub of-requires : goal.of-requires
of-requires c = grind (arith, common_steps)

pub returns-clause-ahead : goal.returns-clause-ahead
returns-clause-ahead c = grind (arith, common_steps)
