use Rattle.std.proofs.Common.{arith}
use Rattle.lists.proofs.names.called.Goals as goal

pub returns : goal.returns
returns c = grind arith
