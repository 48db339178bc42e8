use Rattle.sqltables.proofs.Readings.{days_are}
use Rattle.sqltables.proofs.reading.days_told.Goals as goal

pub returns : goal.returns
returns c days is = days_are c.args.marks.now days c.told-marks is
