use Rattle.std.proofs.Common.{arith}
use Rattle.std.proofs.lemmas.Grind.{common_steps}
use Rattle.tasks.proofs.lines.split_at_end.Goals as goal

pub position-requires-clause-fits : goal.position-requires-clause-fits
position-requires-clause-fits c = grind arith

pub returns-clause-back : goal.returns-clause-back
returns-clause-back c = grind (arith, common_steps)

pub returns-clause-front : goal.returns-clause-front
returns-clause-front c = grind arith

pub returns-clause-whole : goal.returns-clause-whole
returns-clause-whole c = grind arith

pub split_at-requires : goal.split_at-requires
split_at-requires c = grind arith
