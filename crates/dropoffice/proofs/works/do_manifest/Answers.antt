use Rattle.std.proofs.Common.{arith}
use Rattle.dropoffice.proofs.works.do_manifest.Goals as goal

pub returns-clause-opened : goal.returns-clause-opened
returns-clause-opened g c = grind arith
