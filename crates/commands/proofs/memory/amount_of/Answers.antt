use Rattle.std.proofs.Common.{arith}
use Rattle.commands.proofs.memory.amount_of.Goals as goal

pub strip_suffix-requires-text-self : goal.strip_suffix-requires-text-self
strip_suffix-requires-text-self c = grind arith
