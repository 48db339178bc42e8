-- What is left of the file of a command.
use Rattle.std.proofs.Common.{◌≡◌, ◌∙◌, ◌⊎◌, ⊎_elim, inl, inr, refl, sym, subst, ap, ℕ, List, Result}
use Rattle.std.specs.Prelude.{◌≢◌, IsOk, ⊤}
use Rattle.sqlite_disk.specs.declared.Disk as disk
use Rattle.sqlite.specs.Effect.{Database, IsDatabase}
use Rattle.sqlite.specs.State.{State, HasCleanDisk, Opens, IsLive}
use Rattle.sqlite.specs.declared.error.Error.{Error}
use Rattle.sqlite.specs.Schema.{Schema}
use Rattle.sqlite.specs.Files.{file_state}
use Rattle.sqlite.specs.Start.{FindsIn}
use Rattle.sqlite.specs.Recovery.{Image}
use Rattle.boxes.specs.FirstState.{first_state}
use Rattle.boxes.specs.State.{State as Office}
use Rattle.boxes.specs.declared.rows.OfficeRow.{OfficeRow}
use Rattle.sqltables.specs.Kept.{KeepsState, LeavesStates, MayLeave}
use Rattle.sqltables.specs.Schema.{s0}
use Rattle.sqlkeeper.specs.Versions.{IsOfficeFile}
use Rattle.tasks.specs.declared.task.Init.{Init}
use Rattle.commands.specs.Asking.{Asked, IsLeftBy}
use Rattle.dropoffice.specs.FileWorks.{IsBack, WorksIn, did, failed}
use Rattle.dropoffice.specs.Holding.{HoldsEither, HoldsOurs, HoldsState, LeavesHeld, ShowsHeld}
use Rattle.dropoffice.specs.Working.{MadeOn, MigratedOn, RanOn, SparesShown, StillSees, WasOurs}
use Rattle.dropoffice.specs.Leaving.{IsCleanLeft, IsClosed, IsLeftOf, IsLooked, IsSpared, LeavesOffice, MayCrashTo, Migrated, Ran}
use Rattle.dropoffice.specs.Performing.{HoldsBare, IsFirstRow, Made, MayBeMade, MayMake, MayRun}
use Rattle.dropoffice.specs.declared.files.Purpose.{Purpose}
use Rattle.dropoffice.specs.declared.files.Purpose.TheVariants.{Change, Look}
use Rattle.dropoffice.specs.declared.left.Left.{Left}
use Rattle.dropoffice.specs.declared.left.Left.TheVariants as left
use Rattle.commands.proofs.Landing.{is_left}
use Rattle.dropoffice.proofs.Crashing.{crash_more}
use Rattle.dropoffice.proofs.Ended.{held, held_either, leaves_held, shows_held, was_ours}

-- the files held no tables
pub bare_before : (image : Image) (old : State) → (HasCleanDisk old → Opens old × IsLive old) → (HasCleanDisk old → FindsIn image old) → HasCleanDisk old → old.now.schema ≡ s0 → HoldsBare image
bare_before image old opened found early bare =
    let (opens, live) = opened early in
    let at = found early in
    let schema = ap (λ (d : Database). d.schema) (sym opens.clean) ∙ bare in
    record {
      trees = old.committed.trees;
      found = at.reads;
      holds = at.holds;
      bare = subst (λ (schema : Schema). IsDatabase (record { schema = schema; trees = old.committed.trees })) schema (live opens.is_open).1;
    }

module _ {F D : Type 0} {g : disk.Ghosts D} (image : Image) (rest : Left F D g) (old new : State) (opened : HasCleanDisk old → Opens old × IsLive old) (found : HasCleanDisk old → FindsIn image old)
    (leaves : (s : Office) → KeepsState new s → LeavesOffice rest s) (crash : (s : Office) → KeepsState new s → LeavesStates new → MayCrashTo rest (IsLeftOf new s)) where
  pub ran_over : {Step : Office → Office → Asked → Type 0} → RanOn old new Step → Ran image rest Step
  ran_over ran = record {
    before = ran.before;
    after = ran.after;
    asked = ran.asked;
    held = held image old opened found ran.early ran.before ran.kept;
    means = leaves ran.after ran.keeps;
    step = ran.step;
    crash = crash_more rest (IsLeftOf new ran.after) (IsLeftBy ran.asked ran.after) (λ t left. ⊎_elim (λ (same : t ≡ ran.after). is_left ran.asked same) (ran.crash t) left) (crash ran.after ran.keeps ran.whole);
  }

  -- a crash leaves this state alone
  only : (s : Office) → KeepsState new s → LeavesStates new → ((t : Office) → MayLeave new t → t ≡ s) → MayCrashTo rest (λ t. t ≡ s)
  only s keeps whole alone = crash_more rest (IsLeftOf new s) (λ t. t ≡ s) (λ t left. ⊎_elim (λ (same : t ≡ s). same) (alone t) left) (crash s keeps whole)

  pub migrated_over : MigratedOn old new → Migrated image rest
  migrated_over made = record {
    office = made.office;
    held = held_either image old opened found made.early made.office made.kept;
    means = leaves made.office made.keeps;
    crash = only made.office made.keeps made.whole made.crash;
  }

  pub made_over : (words : Init) (office : OfficeRow) (bytes : List ℕ) → IsFirstRow words office bytes → HasCleanDisk old → old.now.schema ≡ s0
      → KeepsState new (first_state office.east office.allowance words.clerk.now bytes) → LeavesStates new
      → ((t : Office) → MayLeave new t → t ≡ first_state office.east office.allowance words.clerk.now bytes) → Made words image rest
  made_over words office bytes first early bare keeps whole alone =
      let s = first_state office.east office.allowance words.clerk.now bytes in
      record {
        held = bare_before image old opened found early bare;
        office = s;
        first = record { office = office; bytes = bytes; first = first; is = refl };
        means = leaves s keeps;
        crash = only s keeps whole alone;
      }

-- ---- work in a file

change_looks : Change ≡ Look → ⊥
change_looks is = cc

-- the connection is handed back, and something more holds of it
back_spared : {F D : Type 0} {g : disk.Ghosts D} (rest : Left F D g) (image : Image) (start : F) (Is Like : State → Type 0) → IsBack Is rest → ((now : State) → Is now → HasCleanDisk now → Like now) → IsCleanLeft rest
    → IsSpared image start Like rest
back_spared (left.Unopened at) image start Is Like is like clean = absurd is
back_spared left.Lost image start Is Like is like clean = absurd is
back_spared (left.Refused refused) image start Is Like is like clean = absurd is
back_spared (left.Looked conn) image start Is Like is like clean = like (file_state conn) is clean
back_spared (left.Closed files) image start Is Like is like clean = absurd is
back_spared (left.Unclosed store) image start Is Like is like clean = absurd is

-- what holds of whatever is shown
back_so : {F D Idle : Type 0} {g : disk.Ghosts D} (rest : Left F D g) (Is : State → Type 0) → ((now : State) → Is now → Idle) → IsBack Is rest → Idle
back_so (left.Unopened at) Is so is = absurd is
back_so left.Lost Is so is = absurd is
back_so (left.Refused refused) Is so is = absurd is
back_so (left.Looked conn) Is so is = so (file_state conn) is
back_so (left.Closed files) Is so is = absurd is
back_so (left.Unclosed store) Is so is = absurd is

module _ {F D C W G : Type 0} {g : disk.Ghosts D} {show : C → State} {done undone : W → State → G → State → Type 0} {work : W} {old : State} {purpose : Purpose} {gain : G} {shut : Result ⊤ Error} {rest : Left F D g} where
  pub works_looked : {Idle : Type 0} → ((now : State) → undone work old gain now → Idle) → WorksIn show done undone work old purpose gain shut rest → Idle ⊎ (purpose ≡ Look → IsLooked rest)
  works_looked idle (did conn is ends) = inr ends.looked
  works_looked idle (failed back) = inl (back_so rest _ idle back)

  pub works_closed : {Idle : Type 0} → ((now : State) → undone work old gain now → Idle) → WorksIn show done undone work old purpose gain shut rest → Idle ⊎ (IsOk shut → purpose ≢ Look → IsClosed rest)
  works_closed idle (did conn is ends) = inr ends.closed
  works_closed idle (failed back) = inl (back_so rest _ idle back)

-- work that changes the file has closed it if it was done
pub works_opened : {F D C W T E : Type 0} {g : disk.Ghosts D} {show : C → State} {done undone : W → State → Result T E → State → Type 0} {work : W} {old : State} {gain : Result T E} {shut : Result ⊤ Error} {rest : Left F D g}
    → ((now : State) → undone work old gain now → IsOk gain → ⊥) → WorksIn show done undone work old Change gain shut rest → IsOk gain → IsOk shut → IsClosed rest
works_opened never (did conn is ends) ok closed = ends.closed closed change_looks
works_opened {rest = rest} never (failed back) ok closed = absurd (back_so rest _ never back ok)

module _ {F D C W : Type 0} {g : disk.Ghosts D} {show : C → State} (image : Image) (start : F) (old : State) (opened : HasCleanDisk old → Opens old × IsLive old) (found : HasCleanDisk old → FindsIn image old)
    {work : W} {purpose : Purpose} {shut : Result ⊤ Error} {rest : Left F D g} where
  -- a command's work on the office that the file holds
  pub office_ran : {G : Type 0} {gain : G} {Idle : W → G → Type 0} {Step : W → G → Office → Office → Asked → Type 0}
      → WorksIn show (λ it old gain new. WasOurs old → HasCleanDisk new → RanOn old new (Step it gain)) (λ it old gain new. Idle it gain × StillSees old new × (WasOurs old → SparesShown old new (KeepsState old))) work old purpose gain shut rest
      → HoldsOurs image → IsCleanLeft rest → MayRun image start rest (Idle work gain) (Step work gain)
  office_ran (did conn ran ends) ours clean = inl (ran_over image rest old (show conn) opened found (ends.leaves clean) (ends.crash clean) (ran (was_ours image old opened found ours) (ends.clean clean)))
  office_ran {gain = gain} {Idle = Idle} (failed back) ours clean = inr (
    back_so rest (λ now. Idle work gain × StillSees old now × (WasOurs old → SparesShown old now (KeepsState old))) (λ now idle. idle.0) back,
    back_spared rest image start (λ now. Idle work gain × StillSees old now × (WasOurs old → SparesShown old now (KeepsState old))) (ShowsHeld image (HoldsState image)) back
        (λ now idle clean. shows_held image old opened found now (KeepsState old) (HoldsState image) (held image old opened found) idle.1 (idle.2 (was_ours image old opened found ours)) clean) clean,
  )

  -- a migration of that office
  pub office_migrated : {T E : Type 0} {gain : Result T E}
      → WorksIn show (λ it old gain new. IsOk gain × (WasOurs old → HasCleanDisk new → MigratedOn old new)) (λ it old gain new. (IsOk gain → ⊥) × StillSees old new × (WasOurs old → SparesShown old new (IsOfficeFile old))) work old purpose gain shut rest
      → HoldsOurs image → IsCleanLeft rest → (IsOk gain × Migrated image rest) ⊎ ((IsOk gain → ⊥) × IsSpared image start (ShowsHeld image (HoldsEither image)) rest)
  office_migrated (did conn made ends) ours clean =
      inl (made.0, migrated_over image rest old (show conn) opened found (ends.leaves clean) (ends.crash clean) (made.1 (was_ours image old opened found ours) (ends.clean clean)))
  office_migrated {gain = gain} (failed back) ours clean = inr (
    back_so rest (λ now. (IsOk gain → ⊥) × StillSees old now × (WasOurs old → SparesShown old now (IsOfficeFile old))) (λ now it. it.0) back,
    back_spared rest image start (λ now. (IsOk gain → ⊥) × StillSees old now × (WasOurs old → SparesShown old now (IsOfficeFile old))) (ShowsHeld image (HoldsEither image)) back
        (λ now it clean. shows_held image old opened found now (IsOfficeFile old) (HoldsEither image) (held_either image old opened found) it.1 (it.2 (was_ours image old opened found ours)) clean) clean,
  )

  -- a new office
  pub office_made : {T E : Type 0} {gain : Result T E} {Fit : W → Type 0} {makes : W → Office} (words : Init) (office : OfficeRow) (bytes : List ℕ) → IsFirstRow words office bytes → Fit work
      → makes work ≡ first_state office.east office.allowance words.clerk.now bytes
      → WorksIn show (λ it old gain new. Fit it → HasCleanDisk new → MadeOn old new (makes it)) (λ it old gain new. (IsOk gain → ⊥) × (Fit it → SparesShown old new (λ t. (old.now.schema ≡ s0) × (t ≡ makes it)))) work old purpose gain shut rest
      → IsCleanLeft rest → MayMake words image start rest (IsOk gain)
  office_made words office bytes first fit same (did conn made ends) clean =
      let it = made fit (ends.clean clean) in
      inl (made_over image rest old (show conn) opened found (ends.leaves clean) (ends.crash clean) words office bytes first it.early it.bare (subst (KeepsState (show conn)) same it.keeps) it.whole (λ t may. it.alone t may ∙ same))
  office_made {gain = gain} {Fit = Fit} {makes = makes} words office bytes first fit same (failed back) clean = inr (
    back_so rest (λ now. (IsOk gain → ⊥) × (Fit work → SparesShown old now (λ t. (old.now.schema ≡ s0) × (t ≡ makes work)))) (λ now it. it.0) back,
    back_spared rest image start (λ now. (IsOk gain → ⊥) × (Fit work → SparesShown old now (λ t. (old.now.schema ≡ s0) × (t ≡ makes work)))) (LeavesHeld image (MayBeMade words image)) back
        (λ now it clean. leaves_held image old opened found now (λ t. (old.now.schema ≡ s0) × (t ≡ makes work)) (MayBeMade words image)
        (λ early t is. record { held = bare_before image old opened found early is.0; first = record { office = office; bytes = bytes; first = first; is = is.1 ∙ same } }) (it.1 fit) clean) clean,
  )
