use Rattle.std.proofs.Common.{arith}
use Rattle.std.proofs.lemmas.Grind.{common_steps}
use Rattle.wire.proofs.answer.put_answer.Goals as goal

pub returns-clause-sent : goal.returns-clause-sent
returns-clause-sent g c = grind arith

pub returns-in-Found-clause-sent : goal.returns-in-Found-clause-sent
returns-in-Found-clause-sent g c = grind arith

pub slice_bounds-send-end : goal.slice_bounds-send-end
slice_bounds-send-end g c = grind (arith, common_steps)

pub slice_bounds-text-end : goal.slice_bounds-text-end
slice_bounds-text-end g c = grind arith
