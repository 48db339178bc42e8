use Rattle.std.proofs.Common.{inr}
use Rattle.sqlite.specs.Files.{file_state}
use Rattle.sqlite.specs.WalFiles.{image_at}
use Rattle.dropoffice.specs.Holding.{HoldsState, ShowsHeld}
use Rattle.dropoffice.proofs.Ended.{spared_more}
use Rattle.dropoffice.proofs.Ends.{office_ran, works_closed, works_looked}
use Rattle.dropoffice.proofs.opening.work_over.Goals as goal

pub returns-in-Ok-clause-looked : goal.returns-in-Ok-clause-looked
returns-in-Ok-clause-looked g c = works_looked (λ now idle. idle.0) c.work_in.ensures

pub returns-in-Ok-clause-closed : goal.returns-in-Ok-clause-closed
returns-in-Ok-clause-closed g c = works_closed (λ now idle. idle.0) c.work_in.ensures

pub returns-in-Ok-clause-ran : goal.returns-in-Ok-clause-ran
returns-in-Ok-clause-ran g c = office_ran (image_at g.S.Start) c.args.start (file_state c.in-Ok.conn) c.in-Ok.ensures.opened c.in-Ok.ensures.found c.work_in.ensures

pub returns-in-Err-connect-clause-ran : goal.returns-in-Err-connect-clause-ran
returns-in-Err-connect-clause-ran g c ours =
    let image = image_at g.S.Start in
    rw (c.ended_with-in-Err-connect.ensures.gain, c.ended_with-in-Err-connect.ensures.left)
    (λ clean. inr (c.refuse-in-Err-connect.ensures, spared_more image c.args.start (ShowsHeld image (HoldsState image)) c.in-Err-connect.left (c.in-Err-connect.ensures.spared clean)))
