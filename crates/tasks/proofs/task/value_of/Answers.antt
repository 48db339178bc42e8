use Rattle.clap.specs.Words.{found_of}
use Rattle.tasks.proofs.TaskValues.{none_given, some_given, value_given}
use Rattle.tasks.proofs.task.value_of.Goals as goal

pub returns-clause-value : goal.returns-clause-value
returns-clause-value c = value_given c.args.id.now (found_of c.args.values.now) c.get_str.result c.get_str.ensures

pub returns-clause-given : goal.returns-clause-given
returns-clause-given c = some_given c.args.id.now (found_of c.args.values.now) c.get_str.result c.get_str.ensures

pub returns-clause-absent : goal.returns-clause-absent
returns-clause-absent c = none_given c.args.id.now (found_of c.args.values.now) c.get_str.result c.get_str.ensures
