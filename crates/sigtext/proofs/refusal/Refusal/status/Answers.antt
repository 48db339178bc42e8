use Rattle.std.proofs.Common.{arith}
use Rattle.sigtext.proofs.refusal.Refusal.status.Goals as goal

pub bounds-self : goal.bounds-self
bounds-self c = grind arith

pub offset_bounds-self : goal.offset_bounds-self
offset_bounds-self c = grind arith

pub returns : goal.returns
returns c = grind arith
