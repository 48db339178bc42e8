-- What a connection holds, and what a crash of it leaves.
use Rattle.std.specs.Prelude.{◌≡◌, ◌⊎◌, ℕ, pos, List, [], Some, Ok, IsTrue, false}
use Rattle.sqlite_trees.specs.Tree.{Trees}
use Rattle.sqlite.specs.Effect.{Database, IsDatabase}
use Rattle.sqlite.specs.State.{State, HasCleanDisk, Executes}
use Rattle.std.specs.List.{AllByRecursion}
use Rattle.boxes.specs.State.{State as Office}
use Rattle.sqlite_schema.specs.declared.schema.Schema.{Schema}
use Rattle.sqltables.specs.Schema.{Version, s0, s9}
use Rattle.sqltables.specs.Tables.{Tables, RowsMean, IsRulesRow, IsUnlimited, NoneStaged, TablesMean, tables_of}

-- ---- SQL level: what a transaction sees, whose tables need not be an office's

-- Every row obeys the schema. The definition does not unfold, because proof search would go astray in it.
unfoldable pub IsWhole : Database → Type 0
IsWhole db = IsDatabase db

pub record Holds (v : Version) (db : Database) (tables : Tables) : Type 0 where
  pub schema : db.schema ≡ v.schema
  pub sound : IsWhole db
  pub means : TablesMean v db.trees tables

-- what a transaction sees means these tables, if the database is open
abbrev pub Pends : Version → State → Tables → Type 0
Pends v s tables = HasCleanDisk s → IsTrue s.in_transaction → IsTrue s.is_open → Holds v s.now tables

-- no table of the schema has a row
pub record HoldsNothing (schema : Schema) (db : Database) : Type 0 where
  pub schema_is : db.schema ≡ schema
  pub empty : AllByRecursion (λ t. db.trees t.tree ≡ []) schema.tables

-- what a transaction sees is this schema without any row, if the database is open
abbrev pub SeesNothing : Schema → State → Type 0
SeesNothing schema s = HasCleanDisk s → IsTrue s.in_transaction → IsTrue s.is_open → HoldsNothing schema s.now

-- ---- an office of version 1, while it is upgraded to version 2

-- its rows are those of version 1 under this schema, and these trees are empty
pub record HoldsMore (schema : Schema) (empty : List ℕ) (tables : Tables) (db : Database) : Type 0 where
  pub holds : Holds (record { number = pos 1; schema = schema }) db tables
  pub unlimited : IsUnlimited tables
  pub none : AllByRecursion (λ tree. db.trees tree ≡ []) empty

-- the tables of version 2 exist and give the allowance; the office's row still says version 1
pub record HoldsRules (tables : Tables) (seconds : ℕ) (db : Database) : Type 0 where
  pub holds : Holds (record { number = pos 1; schema = s9 }) db tables
  pub unlimited : IsUnlimited tables
  pub rules : RowsMean IsRulesRow (λ one. Some seconds) (db.trees 11)
  pub none : db.trees 12 ≡ []
  pub unstaged : NoneStaged db.trees

abbrev pub SeesMore : Schema → List ℕ → State → Tables → Type 0
SeesMore schema empty s tables = HasCleanDisk s → IsTrue s.in_transaction → IsTrue s.is_open → HoldsMore schema empty tables s.now

abbrev pub SeesRules : State → Tables → ℕ → Type 0
SeesRules s tables seconds = HasCleanDisk s → IsTrue s.in_transaction → IsTrue s.is_open → HoldsRules tables seconds s.now

-- a transaction sees nothing staged, if the database is open
abbrev pub SeesUnstaged : State → Type 0
SeesUnstaged s = HasCleanDisk s → IsTrue s.in_transaction → IsTrue s.is_open → NoneStaged s.now.trees

-- if the text was run in such a database, it left one with another table, which is empty
abbrev pub AddsTable : List ℕ → Schema → Schema → List ℕ → List ℕ → Tables → State → State → Type 0
AddsTable sql before after empty more tables old new =
    (count : ℕ) → HoldsMore before empty tables old.now → Executes sql [] old new (Ok count) → HoldsMore after more tables new.now

-- if the text was run in a database of the first schema without rows, it left one of the second schema, also without rows
abbrev pub Creates : List ℕ → Schema → Schema → State → State → Type 0
Creates sql before after old new = (count : ℕ) → HoldsNothing before old.now → Executes sql [] old new (Ok count) → HoldsNothing after new.now

abbrev pub IsRunning : State → Type 0
IsRunning s = IsTrue s.in_transaction × IsTrue s.is_open

-- ---- office level

-- a database given by its rows, as a crash leaves it
abbrev pub OfficeMeans : Version → Trees → Office → Type 0
OfficeMeans v trees office = Holds v (record { schema = v.schema; trees = trees }) (tables_of office)

pub record IsOffice (v : Version) (s : State) (office : Office) : Type 0 where
  pub holds : Holds v s.now (tables_of office)
  pub settled : s.now ≡ s.committed

-- While the disk has returned what was written, no transaction is pending, and while the database is open,
-- its tables mean the office.
pub record IsKept (v : Version) (s : State) (office : Office) : Type 0 where
  pub autocommit : s.in_transaction ≡ false
  pub tables : IsTrue s.is_open → IsOffice v s office

abbrev pub Means : Version → State → Office → Type 0
Means v s office = HasCleanDisk s → IsKept v s office

-- each database that a crash now may leave means this office
abbrev pub LeavesOnly : Version → State → Office → Type 0
LeavesOnly v s office = HasCleanDisk s → (trees : Trees) → s.may_leave trees → OfficeMeans v trees office

-- a crash leaves what it could leave before, or tables that mean this office
abbrev pub AddsOnly : Version → State → State → Office → Type 0
AddsOnly v old new office = HasCleanDisk new → (trees : Trees) → new.may_leave trees → old.may_leave trees ⊎ OfficeMeans v trees office

-- a crash leaves what it could leave before
abbrev pub AddsNothing : State → State → Type 0
AddsNothing old new = HasCleanDisk new → (trees : Trees) → new.may_leave trees → old.may_leave trees

-- a crash now may leave the last committed state
abbrev pub LeavesLast : State → Type 0
LeavesLast s = s.may_leave s.committed.trees

-- no table exists, and no transaction is pending
pub record IsBareNow (s : State) : Type 0 where
  pub schema : s.now.schema ≡ s0
  pub settled : s.now ≡ s.committed

pub record IsBareKept (s : State) : Type 0 where
  pub autocommit : s.in_transaction ≡ false
  pub bare : IsTrue s.is_open → IsBareNow s

-- while the disk has returned what was written, the database is empty
abbrev pub IsBare : State → Type 0
IsBare s = HasCleanDisk s → IsBareKept s
