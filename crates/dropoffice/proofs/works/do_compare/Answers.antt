use Rattle.std.proofs.Common.{arith}
use Rattle.dropoffice.proofs.works.do_compare.Goals as goal

pub returns-clause-opened : goal.returns-clause-opened
returns-clause-opened g c = grind arith

pub returns-clause-ran : goal.returns-clause-ran
returns-clause-ran g c = grind arith
