-- What an office file holds when a command opens it, and what a command that failed leaves of it.
use Rattle.std.specs.Prelude.{◌≡◌, ◌⊎◌, IsTrue}
use Rattle.sqlite.specs.Effect.{Database, IsDatabase}
use Rattle.sqlite.specs.State.{State}
use Rattle.sqlite.specs.Files.{HoldsDatabase, AreFoundIn}
use Rattle.sqlite.specs.Recovery.{Image}
use Rattle.sqlite.specs.Start.{FindsIn}
use Rattle.sqlite.specs.Tree.{Trees}
use Rattle.boxes.specs.State.{State as Office}
use Rattle.sqltables.specs.Kept.{RowsKeep}
use Rattle.boxes.specs.Sound.{IsSound}
use Rattle.sqltables.specs.Means.{OfficeMeans}
use Rattle.sqltables.specs.Schema.{v1}
use Rattle.sqlaudit.specs.Opened.{AreShort, IsOurs}

-- Whatever database the files hold, its tables are the first of an office's in their order, or do not begin as an office's.
abbrev pub HoldsOurs : Image → Type 0
HoldsOurs image = (db : Database) → AreFoundIn image db.trees → IsDatabase db → IsOurs db.schema

-- the files hold one database, and its rows mean this sound state
pub record HoldsState (image : Image) (s : Office) : Type 0 where
  pub trees : Trees
  pub found : AreFoundIn image trees
  pub holds : (db : Trees) → HoldsDatabase image db → trees ≡ db
  pub keep : RowsKeep trees s

-- the trees are the one database that the files hold
pub record AreHeld (image : Image) (trees : Trees) : Type 0 where
  pub found : AreFoundIn image trees
  pub holds : (db : Trees) → HoldsDatabase image db → trees ≡ db

-- a crash leaves the database that the files held, or one that means an office like this
abbrev pub LeavesHeld : Image → (Office → Type 0) → State → Type 0
LeavesHeld image Like now = (trees : Trees) → now.may_leave trees → AreHeld image trees ⊎ ((office : Office) × Like office × RowsKeep trees office)

-- While the connection is open, it shows the database that the files held. A crash leaves that database, or one that means an
-- office like this, which the files held.
pub record ShowsHeld (image : Image) (Was : Office → Type 0) (now : State) : Type 0 where
  pub shows : IsTrue now.is_open → FindsIn image now
  pub crash : LeavesHeld image Was now

-- ---- an office file of version 1

-- the rows mean this sound state, in version 1, whose files were never longer than version 1 allows
pub record RowsKeepFirst (trees : Trees) (s : Office) : Type 0 where
  pub means : OfficeMeans v1 trees s
  pub sound : IsSound s
  pub short : AreShort s

-- the files hold one database, and its rows mean this sound state, in version 1
pub record HoldsFirst (image : Image) (s : Office) : Type 0 where
  pub trees : Trees
  pub found : AreFoundIn image trees
  pub holds : (db : Trees) → HoldsDatabase image db → trees ≡ db
  pub keep : RowsKeepFirst trees s

-- the same in either version
abbrev pub HoldsEither : Image → Office → Type 0
HoldsEither image s = HoldsFirst image s ⊎ HoldsState image s
