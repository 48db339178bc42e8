use Rattle.std.proofs.Common.{arith}
use Rattle.std.proofs.lemmas.Grind.{common_steps}
use Rattle.shelf.proofs.copies.copy_texts.Goals as goal

pub returns : goal.returns
returns c = grind (arith, common_steps)

pub texts-preserved : goal.texts-preserved
texts-preserved c = grind (arith, common_steps)
