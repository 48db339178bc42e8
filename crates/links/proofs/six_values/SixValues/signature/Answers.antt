use Rattle.std.proofs.Common.{arith}
use Rattle.std.proofs.lemmas.Grind.{common_steps}
use Rattle.links.proofs.six_values.SixValues.signature.Goals as goal

pub returns : goal.returns
returns c = grind (arith, common_steps)
