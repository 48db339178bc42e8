use Rattle.std.proofs.Common.{arith}
use Rattle.std.proofs.lemmas.Grind.{common_steps}
use Rattle.sigtext.proofs.fields.is_amz_name.Goals as goal

pub returns-else-name-ge6 : goal.returns-else-name-ge6
returns-else-name-ge6 c = grind (arith, common_steps)
