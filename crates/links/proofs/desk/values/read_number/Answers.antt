use Rattle.std.proofs.Common.{arith}
use Rattle.std.proofs.lemmas.Grind.{common_steps}
use Rattle.links.proofs.desk.values.read_number.Goals as goal

pub returns-clause-some : goal.returns-clause-some
returns-clause-some c = grind (arith, common_steps)

pub returns-then-text-eq48-clause-none : goal.returns-then-text-eq48-clause-none
returns-then-text-eq48-clause-none c = grind (arith, common_steps)
