-- What the command's work makes of the open connection.
use Rattle.std.specs.Prelude.{◌≡◌, ◌⊎◌, IsTrue}
use Rattle.sqlite.specs.State.{State, HasCleanDisk}
use Rattle.sqlite.specs.Tree.{Trees}
use Rattle.boxes.specs.State.{State as Office}
use Rattle.sqltables.specs.Kept.{KeepsState, LeavesStates, MayLeave, RowsKeep}
use Rattle.sqltables.specs.Schema.{s0}
use Rattle.sqlaudit.specs.Opened.{HasOurs, SeesSame}
use Rattle.sqlkeeper.specs.Versions.{IsOfficeFile}
use Rattle.commands.specs.Asking.{Asked, IsLeftBy}

-- while the disk has returned what was written, the tables satisfy `HasOurs`
abbrev pub WasOurs : State → Type 0
WasOurs s = HasCleanDisk s → HasOurs s

-- While the connection is open and the disk has returned what was written, that was so before, and the connection sees the same.
abbrev pub StillSees : State → State → Type 0
StillSees old new = HasCleanDisk new → IsTrue new.is_open → HasCleanDisk old × SeesSame old new

-- No fault of the disk is forgotten. A crash leaves the database that the connection showed while it was open, or one that means
-- again an office like this.
pub record SparesShown (old new : State) (Was : Office → Type 0) : Type 0 where
  pub honest : HasCleanDisk new → HasCleanDisk old
  pub crash : HasCleanDisk new → IsTrue old.is_open → (trees : Trees) → new.may_leave trees
      → (trees ≡ old.committed.trees) ⊎ ((office : Office) × Was office × RowsKeep trees office)

-- The tables of a connection meant a sound state. A step led to the state that they mean now, and a crash leaves that state, or
-- that state after one more of what was asked.
pub record RanOn (old new : State) (Step : Office → Office → Asked → Type 0) : Type 0 where
  pub early : HasCleanDisk old
  pub before : Office
  pub after : Office
  pub asked : Asked
  pub kept : KeepsState old before
  pub keeps : KeepsState new after
  pub step : Step before after asked
  pub crash : (t : Office) → MayLeave new t → IsLeftBy asked after t
  pub whole : LeavesStates new

-- The tables of a connection meant a sound state, in either version. They mean it now in version 2, and so does whatever a
-- crash leaves.
pub record MigratedOn (old new : State) : Type 0 where
  pub early : HasCleanDisk old
  pub office : Office
  pub kept : IsOfficeFile old office
  pub keeps : KeepsState new office
  pub crash : (t : Office) → MayLeave new t → t ≡ office
  pub whole : LeavesStates new

-- The tables of a connection mean this state, which was made in a database without tables. A crash leaves that state alone.
pub record MadeOn (old new : State) (first : Office) : Type 0 where
  pub bare : old.now.schema ≡ s0
  pub early : HasCleanDisk old
  pub keeps : KeepsState new first
  pub whole : LeavesStates new
  pub alone : (t : Office) → MayLeave new t → t ≡ first
