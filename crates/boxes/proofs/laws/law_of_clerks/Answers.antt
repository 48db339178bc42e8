-- This follows from the count of unrevoked clerk's keys.
use Rattle.boxes.proofs.OtherClerks.{two_clerks}
use Rattle.boxes.proofs.laws.law_of_clerks.Goals as goal

pub returns : goal.returns
returns c = two_clerks
