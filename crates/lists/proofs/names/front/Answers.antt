use Rattle.std.proofs.Common.{arith}
use Rattle.std.proofs.lemmas.Grind.{common_steps}
use Rattle.lists.proofs.names.front.Goals as goal

pub returns-in-Err : goal.returns-in-Err
returns-in-Err c = grind arith

pub returns-in-Ok : goal.returns-in-Ok
returns-in-Ok c = grind arith

pub slice_bounds-result-end : goal.slice_bounds-result-end
slice_bounds-result-end c = grind (arith, common_steps)
