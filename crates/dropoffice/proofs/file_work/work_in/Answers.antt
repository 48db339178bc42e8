use Rattle.dropoffice.specs.FileWorks.{did, failed}
use Rattle.dropoffice.proofs.file_work.work_in.Goals as goal

pub returns-in-Ok : goal.returns-in-Ok
returns-in-Ok g c =
    let end = c.end_work-closed.ensures in
    did c.in-Ok.conn c.in-Ok.ensures.done (record { closed = end.closed; looked = end.looked; clean = end.clean; leaves = end.leaves; crash = end.crash })

pub returns-in-Err : goal.returns-in-Err
returns-in-Err g c = rw (c.ended_with.ensures.gain, c.ended_with.ensures.left) (failed c.in-Err.ensures.undone)
