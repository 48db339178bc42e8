-- What a keeper over a connection means within a group, and what a crash leaves once the group is settled.
use Rattle.std.specs.Prelude.{◌≡◌, ◌⊎◌, Result, OnOk, OnErr, IsTrue, false}
use Rattle.sqlite_trees.specs.Tree.{Trees}
use Rattle.sqlite.specs.declared.error.Error.{Error}
use Rattle.sqlite.specs.State.{State, HasCleanDisk, KeepsCommit, Survives}
use Rattle.boxes.specs.State.{State as Office}
use Rattle.boxes.specs.Sound.{IsSound}
use Rattle.sqltables.specs.Schema.{v2}
use Rattle.sqltables.specs.Tables.{tables_of}
use Rattle.sqltables.specs.Means.{AddsOnly, Holds, IsRunning, Means, Pends}
use Rattle.sqltables.specs.Kept.{KeepsState, LeavesStates, MayLeave, RowsKeep}
use Rattle.sqlkeeper.specs.declared.grouping.Group.{Group}
use Rattle.sqlkeeper.specs.declared.grouping.Group.TheVariants.{Alone, Idle, Begun}

-- while the transaction of the group goes on, its tables mean this sound state
pub record PendsState (s : State) (office : Office) : Type 0 where
  pub pends : Pends v2 s (tables_of office)
  pub sound : IsSound office

-- a commit now would leave rows that mean this state
pub record WouldLeave (s : State) (office : Office) : Type 0 where
  pub inside : IsTrue s.in_transaction
  pub keep : RowsKeep s.now.trees office

-- whatever a commit now would leave means a sound state
abbrev pub WouldLeaveStates : State → Type 0
WouldLeaveStates s = HasCleanDisk s → IsTrue s.in_transaction → (office : Office) × RowsKeep s.now.trees office

-- ---- where the changes go to a transaction of the group once it has begun

abbrev pub MeansIn : Group → State → Office → Type 0
MeansIn Alone s office = KeepsState s office
MeansIn Idle s office = KeepsState s office
MeansIn Begun s office = PendsState s office

abbrev pub IsOpenIn : Group → State → Type 0
IsOpenIn Alone s = IsTrue s.is_open
IsOpenIn Idle s = IsTrue s.is_open
IsOpenIn Begun s = IsTrue s.in_transaction × IsTrue s.is_open

abbrev pub LeavesIn : Group → State → Office → Type 0
LeavesIn Alone s office = MayLeave s office
LeavesIn Idle s office = MayLeave s office
LeavesIn Begun s office = WouldLeave s office

abbrev pub LeavesStatesIn : Group → State → Type 0
LeavesStatesIn Alone s = LeavesStates s
LeavesStatesIn Idle s = LeavesStates s
LeavesStatesIn Begun s = WouldLeaveStates s

-- what the tables of the last commit mean
abbrev pub IsBasedOn : Office → State → Type 0
IsBasedOn office s = HasCleanDisk s → IsTrue s.is_open → Holds v2 s.committed (tables_of office)

-- What is left of the office that a keeper meant when its group began: before the group's transaction all of it, and then what
-- was committed last. A crash leaves what it could leave before, or that office.
abbrev pub HasBase : Group → Office → State → Type 0
HasBase Alone office s = Means v2 s office
HasBase Idle office s = Means v2 s office
HasBase Begun office s = IsBasedOn office s

pub record IsGrouped (first : State) (group : Group) (s : State) : Type 0 where
  pub honest : HasCleanDisk s → HasCleanDisk first
  pub base : (office : Office) → Means v2 first office → HasBase group office s
  pub crash : (office : Office) → Means v2 first office → AddsOnly v2 first s office

-- What a call within the group's transaction leaves: nothing is committed, and a crash leaves nothing new. After an error the
-- transaction is over.
pub record GoesOnInGroup {T : Type 0} (old new : State) (result : Result T Error) : Type 0 where
  pub keeps : HasCleanDisk new → KeepsCommit old new
  pub survives : Survives old new (λ _. ⊥)
  pub running : HasCleanDisk new → OnOk result (IsRunning new)
  pub over : HasCleanDisk new → OnErr result (new.in_transaction ≡ false)

-- What a question leaves, whatever its answer: the same office, and a crash leaves nothing new except that office. After an answer
-- the keeper is open.
pub record AsksIn {T : Type 0} (group : Group) (old new : State) (result : Result T Error) : Type 0 where
  pub same : (office : Office) → MeansIn group old office → MeansIn group new office
  pub honest : HasCleanDisk new → HasCleanDisk old
  pub opened : HasCleanDisk new → OnOk result (IsOpenIn group new)
  pub crash : (office t : Office) → MeansIn group old office → HasCleanDisk new → LeavesIn group new t → LeavesIn group old t ⊎ (t ≡ office)
  pub whole : (office : Office) → MeansIn group old office → HasCleanDisk new → LeavesStatesIn group old → LeavesStatesIn group new

-- a crash leaves this office once the group is settled, and no other
pub record LeavesOnlyIn (group : Group) (s : State) (after : Office) : Type 0 where
  pub there : LeavesIn group s after
  pub alone : (t : Office) → LeavesIn group s t → t ≡ after
  pub whole : LeavesStatesIn group s

-- a crash leaves nothing new once the group is settled, except the office before a change and the one after it
pub record LeavesOneIn (before : Group) (old : State) (group : Group) (new : State) (office after : Office) : Type 0 where
  pub either : (t : Office) → LeavesIn group new t → LeavesIn before old t ⊎ (t ≡ office) ⊎ (t ≡ after)
  pub whole : LeavesStatesIn before old → LeavesStatesIn group new
