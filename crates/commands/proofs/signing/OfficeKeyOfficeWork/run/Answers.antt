use Rattle.commands.proofs.Landing.{looked, looks}
use Rattle.commands.proofs.signing.OfficeKeyOfficeWork.run.Goals as goal

pub returns : goal.returns
returns g c = looked c.key.result c.key.ensures.rest (λ s kept. looks s)
