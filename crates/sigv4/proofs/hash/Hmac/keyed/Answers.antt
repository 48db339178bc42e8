use Rattle.std.proofs.Common.{arith}
use Rattle.std.proofs.lemmas.Grind.{common_steps}
use Rattle.sigv4.proofs.hash.Hmac.keyed.Goals as goal

pub returns : goal.returns
returns c = grind (arith, common_steps)
