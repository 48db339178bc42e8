use Rattle.links.proofs.Alike.{says_the_same}
use Rattle.links.proofs.laws.law_of_texts.Goals as goal

pub returns : goal.returns
returns c = record { same = says_the_same }
