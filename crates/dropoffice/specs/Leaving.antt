-- What a command leaves of an office file.
use Rattle.std.specs.Prelude.{◌≡◌, ◌⊎◌, ⊤}
use Rattle.sqlite_disk.specs.declared.Disk as disk
use Rattle.sqlite_disk.specs.declared.Files.{Files}
use Rattle.sqlite.specs.State.{State, HasCleanDisk}
use Rattle.sqlite.specs.Files.{file_state, image_of, LeavesFiles}
use Rattle.sqlite.specs.Files as files
use Rattle.sqlite.specs.FileStore.{view, recovers}
use Rattle.sqlite.specs.WalFiles.{outcomes}
use Rattle.sqlite.specs.WalReads.{AreClean}
use Rattle.sqlite.specs.View.{IsClean}
use Rattle.sqlite.specs.Closing.{HoldsAlone}
use Rattle.sqlite.specs.Recovery.{Image}
use Rattle.sqlite.specs.Tree.{Trees}
use Rattle.boxes.specs.State.{State as Office}
use Rattle.sqltables.specs.Kept.{KeepsState, MayLeave, RowsKeep}
use Rattle.commands.specs.Asking.{Asked, IsLeftBy}
use Rattle.dropoffice.specs.Holding.{HoldsEither, HoldsState}
use Rattle.dropoffice.specs.declared.left.Left.{Left}
use Rattle.dropoffice.specs.declared.left.Left.TheVariants as left

-- the database file holds one database, with or without its log, and its rows mean this sound state
pub record LeavesState (image : Image) (s : Office) : Type 0 where
  pub trees : Trees
  pub alone : HoldsAlone image trees
  pub keep : RowsKeep trees s

-- a crash of the connection leaves this state, or one that it may leave
abbrev pub IsLeftOf : State → Office → Office → Type 0
IsLeftOf now s t = (t ≡ s) ⊎ MayLeave now t

-- the files hold this image, and so does whatever a crash leaves of them
pub record HoldOnly {D : Type 0} (g : disk.Ghosts D) (image : Image) (files : Files D) : Type 0 where
  pub now : image_of g files ≡ image
  pub crash : (left : Image) → outcomes g files.log files.db left → left ≡ image

module _ {F D : Type 0} {g : disk.Ghosts D} where
  -- the disk has returned what was written
  abbrev pub IsCleanLeft : Left F D g → Type 0
  IsCleanLeft (left.Unopened start) = ⊤
  IsCleanLeft left.Lost = ⊤
  IsCleanLeft (left.Refused rest) = files.IsCleanLeft rest
  IsCleanLeft (left.Looked conn) = HasCleanDisk (file_state conn)
  IsCleanLeft (left.Closed files) = AreClean g files.log files.db
  IsCleanLeft (left.Unclosed store) = IsClean (view store)

  -- What is left means this state. Of a store that could not be closed `MayCrashTo` says all.
  abbrev pub LeavesOffice : Left F D g → Office → Type 0
  LeavesOffice (left.Looked conn) s = KeepsState (file_state conn) s
  LeavesOffice (left.Closed files) s = LeavesState (image_of g files) s
  LeavesOffice (left.Unclosed store) s = ⊤
  LeavesOffice _ s = ⊥

  -- the files are closed
  abbrev pub IsClosed : Left F D g → Type 0
  IsClosed (left.Closed files) = ⊤
  IsClosed _ = ⊥

  -- the connection is handed back
  abbrev pub IsLooked : Left F D g → Type 0
  IsLooked (left.Looked conn) = ⊤
  IsLooked _ = ⊥

  -- whatever a crash now leaves of the files means a sound state like this
  abbrev pub MayCrashTo : Left F D g → (Office → Type 0) → Type 0
  MayCrashTo (left.Looked conn) Like = (trees : Trees) → (file_state conn).may_leave trees → (t : Office) × RowsKeep trees t × Like t
  MayCrashTo (left.Closed files) Like = (image : Image) → outcomes g files.log files.db image → (t : Office) × LeavesState image t × Like t
  MayCrashTo (left.Unclosed store) Like = (trees : Trees) → recovers store trees → (t : Office) × RowsKeep trees t × Like t
  MayCrashTo _ Like = ⊥

  -- What is left of files that held this image, if nothing was done. start: what stood for the files; if it is given back, they
  -- were not opened. `Lost`: the system did not open them. Like: what holds of a connection that is handed back.
  abbrev pub IsSpared : Image → F → (State → Type 0) → Left F D g → Type 0
  IsSpared image start Like (left.Unopened back) = back ≡ start
  IsSpared image start Like left.Lost = ⊤
  IsSpared image start Like (left.Refused rest) = (files : Files D) × HoldOnly g image files × LeavesFiles files rest
  IsSpared image start Like (left.Looked conn) = Like (file_state conn)
  IsSpared image start Like (left.Closed files) = ⊥
  IsSpared image start Like (left.Unclosed store) = ⊥

  -- The files held a sound state. A step led to the state that what is left means, and a crash leaves that state, or that state
  -- after one more of what was asked.
  pub record Ran (image : Image) (rest : Left F D g) (Step : Office → Office → Asked → Type 0) : Type 0 where
    pub before : Office
    pub after : Office
    pub asked : Asked
    pub held : HoldsState image before
    pub means : LeavesOffice rest after
    pub step : Step before after asked
    pub crash : MayCrashTo rest (IsLeftBy asked after)

  -- The files held a sound state, in either version. What is left means it in version 2, and so does whatever a crash leaves.
  pub record Migrated (image : Image) (rest : Left F D g) : Type 0 where
    pub office : Office
    pub held : HoldsEither image office
    pub means : LeavesOffice rest office
    pub crash : MayCrashTo rest (λ t. t ≡ office)
