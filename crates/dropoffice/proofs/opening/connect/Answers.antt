use Rattle.std.proofs.Common.{◌∙◌, ℕ, Bool, cond, List, ap, ap₂, subst}
use Rattle.sqlite_disk.specs.Events.{Event, replay}
use Rattle.sqlite.specs.Recovery.{Image}
use Rattle.sqlite.specs.Files.{file_state}
use Rattle.sqlite.specs.Start.{FindsIn}
use Rattle.dropoffice.proofs.Fresh.{settled_only}
use Rattle.dropoffice.proofs.opening.connect.Goals as goal

abbrev image : List ℕ → List ℕ → Image
image log db = record { log = log; db = db }

abbrev seen : List ℕ → List ℕ → Bool → List Event → List ℕ
seen log db is_log history = (replay (cond is_log log db) history).seen

pub returns-in-Ok-open_files-clause-found : goal.returns-in-Ok-open_files-clause-found
returns-in-Ok-open_files-clause-found g c clean =
    let (log, db) = c.in-Ok-open.ensures.fresh in
    let found = c.in-Ok-open_files.ensures.found clean in
    let same = ap₂ image (ap₂ (seen g.S.Start.log g.S.Start.db) log.0 log.1) (ap₂ (seen g.S.Start.log g.S.Start.db) db.0 db.1) in
    subst (λ i. FindsIn i (file_state c.in-Ok-open_files.conn)) same (record { holds = found.holds; reads = found.reads })

pub returns-in-Err-open_files-clause-spared : goal.returns-in-Err-open_files-clause-spared
returns-in-Err-open_files-clause-spared g c clean =
    let files = c.in-Ok-open.files in
    let (log, db) = c.in-Ok-open.ensures.fresh in
    let held_log = ap (λ (is_log : Bool). cond is_log g.S.Start.log g.S.Start.db) log.0 in
    let held_db = ap (λ (is_log : Bool). cond is_log g.S.Start.log g.S.Start.db) db.0 in (
      files,
      record {
        now = ap₂ image (ap₂ (seen g.S.Start.log g.S.Start.db) log.0 log.1) (ap₂ (seen g.S.Start.log g.S.Start.db) db.0 db.1);
        crash = λ left may. ap₂ image (settled_only _ _ _ _ log.1 left.log may.0 ∙ held_log) (settled_only _ _ _ _ db.1 left.db may.1 ∙ held_db);
      },
      c.in-Err-open_files.ensures.unharmed clean,
    )
