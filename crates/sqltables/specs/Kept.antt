-- What a keeper over a connection means, and what a crash of it leaves.
use Rattle.sqlite_trees.specs.Tree.{Trees}
use Rattle.sqlite.specs.State.{State, HasCleanDisk}
use Rattle.boxes.specs.State.{State as Office}
use Rattle.boxes.specs.Sound.{IsSound}
use Rattle.sqltables.specs.Schema.{v2}
use Rattle.sqltables.specs.Means.{Means, OfficeMeans}

-- The tables mean this sound state. Rows of tables may mean more than one unsound state.
pub record KeepsState (s : State) (office : Office) : Type 0 where
  pub means : Means v2 s office
  pub sound : IsSound office

-- the rows mean this sound state
pub record RowsKeep (trees : Trees) (office : Office) : Type 0 where
  pub means : OfficeMeans v2 trees office
  pub sound : IsSound office

-- a crash now may leave rows that mean this state
pub record MayLeave (s : State) (office : Office) : Type 0 where
  pub trees : Trees
  pub left : s.may_leave trees
  pub keep : RowsKeep trees office

-- whatever a crash now leaves means a sound state
abbrev pub LeavesStates : State → Type 0
LeavesStates s = HasCleanDisk s → (trees : Trees) → s.may_leave trees → (office : Office) × RowsKeep trees office
