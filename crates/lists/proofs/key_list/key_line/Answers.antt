use Rattle.std.proofs.Common.{arith}
use Rattle.lists.proofs.key_list.key_line.Goals as goal

pub returns-clause-line : goal.returns-clause-line
returns-clause-line c = grind arith
