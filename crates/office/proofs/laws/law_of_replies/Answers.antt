use Rattle.office.proofs.Once.{replies_once}
use Rattle.office.proofs.laws.law_of_replies.Goals as goal

pub returns : goal.returns
returns c = record { one = replies_once }
