use Rattle.lists.proofs.Paths.{own_folder}
use Rattle.lists.proofs.laws.law_of_folders.Goals as goal

pub returns : goal.returns
returns c = λ box text named files sums begins ends is. own_folder box named begins ends files sums text is
