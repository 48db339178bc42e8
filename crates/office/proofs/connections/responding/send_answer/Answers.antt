use Rattle.std.proofs.Common.{arith}
use Rattle.office.proofs.connections.responding.send_answer.Goals as goal

pub returns-else-gives_up-clause-clean : goal.returns-else-gives_up-clause-clean
returns-else-gives_up-clause-clean g c = grind arith

pub returns-else-gives_up-clause-fault : goal.returns-else-gives_up-clause-fault
returns-else-gives_up-clause-fault g c = grind arith

pub returns-else-gives_up-clause-sent : goal.returns-else-gives_up-clause-sent
returns-else-gives_up-clause-sent g c = grind arith

pub returns-then-gives_up-clause-clean : goal.returns-then-gives_up-clause-clean
returns-then-gives_up-clause-clean g c = grind arith

pub returns-then-gives_up-clause-fault : goal.returns-then-gives_up-clause-fault
returns-then-gives_up-clause-fault g c = grind arith

pub returns-then-gives_up-clause-sent : goal.returns-then-gives_up-clause-sent
returns-then-gives_up-clause-sent g c = grind arith

pub returns-then-is_err-clause-clean : goal.returns-then-is_err-clause-clean
returns-then-is_err-clause-clean g c = grind arith

pub returns-then-is_err-clause-fault : goal.returns-then-is_err-clause-fault
returns-then-is_err-clause-fault g c = grind arith

pub returns-then-is_err-clause-sent : goal.returns-then-is_err-clause-sent
returns-then-is_err-clause-sent g c = grind arith
