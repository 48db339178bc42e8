use Rattle.office.proofs.RepeatEdges.{run_of}
use Rattle.office.proofs.Repeats.{repeats_once, run_acts}
use Rattle.office.proofs.laws.law_of_acts.Goals as goal

pub returns-clause-are : goal.returns-clause-are
returns-clause-are c = λ s after cs moments. (run_acts s after cs moments, λ has. run_of s after cs moments has.0 has.1 has.2)

pub returns-clause-once : goal.returns-clause-once
returns-clause-once c = λ s after acts. repeats_once s acts after
