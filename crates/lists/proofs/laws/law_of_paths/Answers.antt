use Rattle.lists.proofs.Paths.{path_unescaped}
use Rattle.lists.proofs.laws.law_of_paths.Goals as goal

pub returns : goal.returns
returns c = path_unescaped
