use Rattle.std.proofs.Common.{arith}
use Rattle.lists.proofs.names.cleaned.Goals as goal

pub returns-then-may_stand-clause-other : goal.returns-then-may_stand-clause-other
returns-then-may_stand-clause-other c = grind arith
