use Rattle.std.proofs.Common.{arith}
use Rattle.lists.proofs.manifests.moment_text.Goals as goal

pub returns-in-Some : goal.returns-in-Some
returns-in-Some c = grind arith
