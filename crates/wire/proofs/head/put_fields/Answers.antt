use Rattle.std.proofs.Common.{arith}
use Rattle.std.proofs.lemmas.Grind.{common_steps}
use Rattle.wire.proofs.head.put_fields.Goals as goal

pub bounds-fields-i : goal.bounds-fields-i
bounds-fields-i c = grind arith

pub of-requires-clause-in_range : goal.of-requires-clause-in_range
of-requires-clause-in_range c = grind arith

pub of-requires-clause-ordered : goal.of-requires-clause-ordered
of-requires-clause-ordered c = grind arith

pub of-requires-in-spans-clause-in_range : goal.of-requires-in-spans-clause-in_range
of-requires-in-spans-clause-in_range c = grind arith

pub of-requires-in-spans-clause-ordered : goal.of-requires-in-spans-clause-ordered
of-requires-in-spans-clause-ordered c = grind arith

pub returns : goal.returns
returns c = grind (arith, common_steps)

pub spans-preserved : goal.spans-preserved
spans-preserved c = grind (arith, common_steps)
