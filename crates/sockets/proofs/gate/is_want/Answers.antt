use Rattle.std.proofs.Common.{arith}
use Rattle.sockets.proofs.gate.is_want.Goals as goal

pub returns-in-None-clause-told : goal.returns-in-None-clause-told
returns-in-None-clause-told c = grind arith

pub returns-in-Some-2-clause-all : goal.returns-in-Some-2-clause-all
returns-in-Some-2-clause-all c = grind arith

pub returns-in-Some-2-clause-told : goal.returns-in-Some-2-clause-told
returns-in-Some-2-clause-told c = grind arith

pub returns-in-Some-clause-all : goal.returns-in-Some-clause-all
returns-in-Some-clause-all c = grind arith

pub returns-in-Some-clause-told : goal.returns-in-Some-clause-told
returns-in-Some-clause-told c = grind arith

pub returns-in-Some-eq12-2-clause-told : goal.returns-in-Some-eq12-2-clause-told
returns-in-Some-eq12-2-clause-told c = grind arith

pub returns-in-Some-eq12-clause-told : goal.returns-in-Some-eq12-clause-told
returns-in-Some-eq12-clause-told c = grind arith
