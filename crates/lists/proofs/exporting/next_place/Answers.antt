use Rattle.std.proofs.Common.{arith}
use Rattle.lists.proofs.exporting.next_place.Goals as goal

pub returns-in-None-clause-inside : goal.returns-in-None-clause-inside
returns-in-None-clause-inside g c = grind arith

pub returns-in-None-clause-next : goal.returns-in-None-clause-next
returns-in-None-clause-next g c = grind arith

pub returns-in-Some-clause-inside : goal.returns-in-Some-clause-inside
returns-in-Some-clause-inside g c = grind arith

pub returns-in-Some-clause-next : goal.returns-in-Some-clause-next
returns-in-Some-clause-next g c = grind arith
