use Rattle.std.proofs.Common.{rules}
use Rattle.clap.specs.Words.{found_of}
use Rattle.tasks.proofs.TaskValues.{no_values_given, values_given}
use Rattle.tasks.proofs.task.values_of.Goals as goal

pub returns-in_ok-from_slice-in-Some-clause-values : goal.returns-in_ok-from_slice-in-Some-clause-values
returns-in_ok-from_slice-in-Some-clause-values c =
    values_given c.args.id.now (found_of c.args.values.now) c.get_strs.result c.in-Some.texts c.in_ok-from_slice-in-Some.field-0.items c.get_strs.ensures c.in-Some.is (search rules)

pub returns-in-None-clause-given : goal.returns-in-None-clause-given
returns-in-None-clause-given c = λ has. absurd (no_values_given c.args.id.now (found_of c.args.values.now) c.get_strs.result c.get_strs.ensures c.in-None.is has)
