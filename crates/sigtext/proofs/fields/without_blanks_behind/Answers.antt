use Rattle.std.proofs.Common.{arith}
use Rattle.std.proofs.lemmas.Grind.{common_steps}
use Rattle.sigtext.proofs.fields.without_blanks_behind.Goals as goal

pub loop-end-init : goal.loop-end-init
loop-end-init c = grind (arith, common_steps)

pub loop-end-preserved : goal.loop-end-preserved
loop-end-preserved c = grind (arith, common_steps)

pub returns : goal.returns
returns c = grind (arith, common_steps)
