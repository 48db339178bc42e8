use Rattle.office.proofs.ToldMoments.{told_fixed}
use Rattle.office.proofs.clocks.FixedClock.new.Goals as goal

pub returns : goal.returns
returns c moments later told = told_fixed _ later moments told
