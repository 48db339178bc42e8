use Rattle.std.proofs.Common.{arith}
use Rattle.sigv4.proofs.last_key.copy_of.Goals as goal

pub returns-in_err-ok : goal.returns-in_err-ok
returns-in_err-ok g c = grind arith
