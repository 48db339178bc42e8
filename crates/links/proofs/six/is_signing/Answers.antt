use Rattle.std.proofs.Common.{arith}
use Rattle.links.proofs.six.is_signing.Goals as goal

pub returns-then-decodes_to-5 : goal.returns-then-decodes_to-5
returns-then-decodes_to-5 c = grind arith
