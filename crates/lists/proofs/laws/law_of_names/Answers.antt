use Rattle.lists.proofs.Components.{number_once}
use Rattle.lists.proofs.OneName.{name_once}
use Rattle.lists.proofs.laws.law_of_names.Goals as goal

pub returns : goal.returns
returns c = record { name = name_once; number = number_once }
