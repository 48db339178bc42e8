use Rattle.std.proofs.Common.{arith}
use Rattle.sigv4.proofs.last_key.LastKey.hasher.Goals as goal

pub new-self-requires : goal.new-self-requires
new-self-requires c = grind arith

pub returns : goal.returns
returns c = grind arith

pub returns-then-is_of : goal.returns-then-is_of
returns-then-is_of c = grind arith
