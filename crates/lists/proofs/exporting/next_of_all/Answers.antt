use Rattle.std.proofs.Common.{arith}
use Rattle.lists.proofs.exporting.next_of_all.Goals as goal

pub returns-in-Err-clause-next : goal.returns-in-Err-clause-next
returns-in-Err-clause-next g c = λ s meant. tt

pub returns-in-Err-clause-fault : goal.returns-in-Err-clause-fault
returns-in-Err-clause-fault g c = tt

pub returns-in-Err-Keep-clause-stays : goal.returns-in-Err-Keep-clause-stays
returns-in-Err-Keep-clause-stays g c = grind arith

pub returns-in-Ok-clause-next : goal.returns-in-Ok-clause-next
returns-in-Ok-clause-next g c = grind arith
