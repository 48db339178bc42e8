use Rattle.std.proofs.Common.{map, arith}
use Rattle.tasks.proofs.TaskFaults.{refused}
use Rattle.tasks.proofs.task.Task.read.Goals as goal

pub returns-clause-secrets : goal.returns-clause-secrets
returns-clause-secrets c = refused (map (λ w. w.now) c.args.words.now) c.parsed-task.result c.parsed-task.ensures.task c.parsed-task.ensures.kinds

pub parsed-task-requires : goal.parsed-task-requires
parsed-task-requires c = grind arith

pub returns-clause-kinds : goal.returns-clause-kinds
returns-clause-kinds c = grind arith

pub returns-clause-passes : goal.returns-clause-passes
returns-clause-passes c = grind arith

pub returns-clause-task : goal.returns-clause-task
returns-clause-task c = grind arith
