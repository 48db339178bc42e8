use Rattle.sigtext.proofs.Spaces.{none_doubled}
use Rattle.sigtext.proofs.fields.has_double_space.Goals as goal

pub returns : goal.returns
returns c = rw c.is_some.ensures (none_doubled c.args.value.now c.find.result c.find.ensures)
