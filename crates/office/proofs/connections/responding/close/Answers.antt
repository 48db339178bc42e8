use Rattle.std.proofs.Common.{arith}
use Rattle.office.proofs.connections.responding.close.Goals as goal

pub returns-clause-clean : goal.returns-clause-clean
returns-clause-clean g c = grind arith

pub returns-clause-closed : goal.returns-clause-closed
returns-clause-closed g c = grind arith

pub returns-clause-end : goal.returns-clause-end
returns-clause-end g c = grind arith

pub returns-in-Ok-clause-closed : goal.returns-in-Ok-clause-closed
returns-in-Ok-clause-closed g c = grind arith

pub returns-in-Ok-clause-end : goal.returns-in-Ok-clause-end
returns-in-Ok-clause-end g c = grind arith

pub returns-in-Ok-clause-fault : goal.returns-in-Ok-clause-fault
returns-in-Ok-clause-fault g c = grind arith
