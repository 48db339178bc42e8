use Rattle.sigtext.proofs.Compared.{decided}
use Rattle.sigtext.proofs.canonical.is_signature.Goals as goal

pub returns : goal.returns
returns c = decided _ _ _ c.decodes_to.ensures
