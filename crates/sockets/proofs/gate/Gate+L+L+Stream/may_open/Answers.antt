use Rattle.std.proofs.Common.{arith}
use Rattle.sockets.proofs.gate.Gate+L+L+Stream.may_open.Goals as goal

pub returns-clause-all : goal.returns-clause-all
returns-clause-all g c = grind arith

pub returns-clause-few : goal.returns-clause-few
returns-clause-few g c = grind arith
