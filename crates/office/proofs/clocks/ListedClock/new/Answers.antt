use Rattle.office.proofs.ToldMoments.{told_listed}
use Rattle.office.proofs.clocks.ListedClock.new.Goals as goal

pub returns : goal.returns
returns c moments later told = told_listed _ later moments told
