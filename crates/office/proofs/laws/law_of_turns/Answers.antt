use Rattle.office.specs.Interleaved.{acts_in}
use Rattle.office.proofs.Repeats.{repeats_once}
use Rattle.office.proofs.RunTurns.{run_interleaved}
use Rattle.office.proofs.WithoutInTurn.{without_in_turn}
use Rattle.office.proofs.laws.law_of_turns.Goals as goal

pub returns-clause-runs : goal.returns-clause-runs
returns-clause-runs c = run_interleaved

pub returns-clause-once : goal.returns-clause-once
returns-clause-once c = λ s after threads moments turned. repeats_once s (acts_in turned.turns) after turned.order

pub returns-clause-without : goal.returns-clause-without
returns-clause-without c = without_in_turn
