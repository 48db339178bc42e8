use Rattle.sigtext.proofs.SameTexts.{same_text}
use Rattle.sigtext.proofs.laws.law_text.Goals as goal

pub returns : goal.returns
returns c = record { same = same_text }
