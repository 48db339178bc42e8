use Rattle.std.proofs.Common.{arith}
use Rattle.sigtext.proofs.target.raw_param.Goals as goal

pub returns-in-None : goal.returns-in-None
returns-in-None c = grind arith

pub returns-in-Some : goal.returns-in-Some
returns-in-Some c = grind arith
