use Rattle.std.proofs.Common.{arith}
use Rattle.commands.proofs.memory.fn.amount_of.find_map.Goals as goal

pub returns-kept-1 : goal.returns-kept-1
returns-kept-1 c = grind arith
