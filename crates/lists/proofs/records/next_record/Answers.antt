use Rattle.std.proofs.Common.{arith}
use Rattle.lists.proofs.records.next_record.Goals as goal

pub returns-clause-fault : goal.returns-clause-fault
returns-clause-fault g c = grind arith

pub returns-clause-goes_on : goal.returns-clause-goes_on
returns-clause-goes_on g c = grind arith

pub returns-clause-record : goal.returns-clause-record
returns-clause-record g c = grind arith

pub returns-then-faults-gt0-clause-reads : goal.returns-then-faults-gt0-clause-reads
returns-then-faults-gt0-clause-reads g c = grind arith
