use Rattle.std.proofs.Common.{arith}
use Rattle.std.proofs.lemmas.Grind.{common_steps}
use Rattle.sigv4.proofs.hash.block_of.Goals as goal

pub returns-then-key-front : goal.returns-then-key-front
returns-then-key-front c = grind (arith, common_steps)
