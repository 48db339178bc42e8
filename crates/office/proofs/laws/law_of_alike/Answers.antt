use Rattle.office.proofs.Alikeness.{replied_alike}
use Rattle.office.proofs.laws.law_of_alike.Goals as goal

pub returns : goal.returns
returns c = record { same = replied_alike }
