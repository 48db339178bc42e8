use Rattle.std.proofs.Common.{◌⊎◌, ⊎_elim, inl, inr}
use Rattle.std.specs.Prelude.{IsOk}
use Rattle.sqlite.specs.Files.{file_state}
use Rattle.sqlite.specs.WalFiles.{image_at}
use Rattle.dropoffice.specs.Holding.{HoldsEither, ShowsHeld}
use Rattle.dropoffice.specs.Leaving.{IsSpared, Migrated}
use Rattle.dropoffice.proofs.Ends.{office_migrated, works_opened}
use Rattle.dropoffice.proofs.migrating.do_migrate.Goals as goal

pub returns-in-Ok-clause-ran : goal.returns-in-Ok-clause-ran
returns-in-Ok-clause-ran g c ours =
    let image = image_at g.S.Start in
    let migrated = c.work_in-gain.result.gain in
    let rest = c.work_in-gain.result.left in
    rw (c.ended_with-in-Ok.ensures.gain, c.ended_with-in-Ok.ensures.left)
    (λ clean. ⊎_elim
    (λ (it : IsOk migrated × Migrated image rest). inl (it.1, c.tell_migrated.ensures.said it.0))
    (λ (it : (IsOk migrated → ⊥) × IsSpared image c.args.start (ShowsHeld image (HoldsEither image)) rest). inr (c.tell_migrated.ensures.handed it.0, it.1))
    (office_migrated image c.args.start (file_state c.in-Ok.conn) c.in-Ok.ensures.opened c.in-Ok.ensures.found c.work_in-gain.ensures ours clean))

pub returns-in-Ok-clause-opened : goal.returns-in-Ok-clause-opened
returns-in-Ok-clause-opened g c =
    rw (c.ended_with-in-Ok.ensures.gain, c.ended_with-in-Ok.ensures.left)
    (λ done. let told = c.tell_migrated.ensures.done done in works_opened (λ now undone. undone.0) c.work_in-gain.ensures told.0 told.1)
