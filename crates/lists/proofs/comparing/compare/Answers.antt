use Rattle.std.proofs.Common.{arith}
use Rattle.lists.proofs.comparing.compare.Goals as goal

pub returns-clause-count : goal.returns-clause-count
returns-clause-count g c = grind arith

pub returns-clause-order : goal.returns-clause-order
returns-clause-order g c = grind arith

pub returns-clause-reads : goal.returns-clause-reads
returns-clause-reads g c = grind arith

pub returns-clause-stays : goal.returns-clause-stays
returns-clause-stays g c = grind arith
