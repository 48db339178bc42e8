use Rattle.std.proofs.Common.{arith}
use Rattle.commands.proofs.linking.read_order.Goals as goal

pub as_bytes-requires-3-text-self : goal.as_bytes-requires-3-text-self
as_bytes-requires-3-text-self c = grind arith
