use Rattle.std.proofs.Common.{arith}
use Rattle.links.proofs.writing.write_link.Goals as goal

pub returns-clause-err : goal.returns-clause-err
returns-clause-err c = grind arith

pub returns-clause-ok : goal.returns-clause-ok
returns-clause-ok c = grind arith

pub returns-in_default-clause-fault : goal.returns-in_default-clause-fault
returns-in_default-clause-fault c = grind arith
