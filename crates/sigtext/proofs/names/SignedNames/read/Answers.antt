use Rattle.std.proofs.Common.{arith}
use Rattle.sigtext.proofs.names.SignedNames.read.Goals as goal

pub returns-then-are_names-clause-ok : goal.returns-then-are_names-clause-ok
returns-then-are_names-clause-ok c = grind arith
