use Rattle.std.proofs.Common.{arith}
use Rattle.dropoffice.proofs.ending.spoken.Goals as goal

pub returns-clause-done : goal.returns-clause-done
returns-clause-done g c = grind arith

pub returns-clause-ending : goal.returns-clause-ending
returns-clause-ending g c = grind arith

pub returns-clause-left : goal.returns-clause-left
returns-clause-left g c = grind arith

pub returns-clause-out : goal.returns-clause-out
returns-clause-out g c = grind arith
