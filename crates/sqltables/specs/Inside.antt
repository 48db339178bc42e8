-- What a transaction shows, and the result of a call inside it.
use Rattle.std.specs.Prelude.{◌≡◌, Result, OnOk, IfOk, IsTrue}
use Rattle.std.specs.Borrow.{GName}
use Rattle.sqlite_schema.specs.declared.schema.Schema.{Schema}
use Rattle.sqlite.specs.declared.error.Error.{Error}
use Rattle.sqlite.specs.State.{State, HasCleanDisk, KeepsCommit, Survives}
use Rattle.sqltables.specs.Schema.{Version, IsVersion, v2}
use Rattle.boxes.specs.State.{State as Office}
use Rattle.boxes.specs.Sound.{IsSound}
use Rattle.sqltables.specs.Tables.{Tables, tables_of}
use Rattle.sqltables.specs.Means.{Pends, IsRunning, IsWhole}

-- What the connection of a transaction shows, and the name of the transaction's reference to it. apart: what holds of a savepoint
-- that did not begin the transaction.
pub record View : Type 1 where
  pub state : State
  pub name : GName
  pub apart : Type 0

-- it is the same transaction, and its savepoint is still there
pub record IsSameLedger {S : Type 0} (g : S → View) (old new : S) : Type 0 where
  pub name : (g new).name ≡ (g old).name
  pub apart : (g old).apart → (g new).apart

-- what the transaction's connection shows
abbrev pub seen : {S : Type 0} → (S → View) → S → State
seen g tx = (g tx).state

-- The result of a call that queries or writes, whether or not it succeeded: it is the same transaction, which goes on if the
-- call succeeded; nothing was committed; and a crash leaves nothing new.
pub record GoesOnInside {S T : Type 0} (g : S → View) (old new : S) (result : Result T Error) : Type 0 where
  pub same_reference : IsSameLedger g old new
  pub running : HasCleanDisk (seen g new) → OnOk result (IsRunning (seen g new))
  pub uncommitted : HasCleanDisk (seen g new) → KeepsCommit (seen g old) (seen g new)
  pub survives : Survives (seen g old) (seen g new) (λ _. ⊥)

-- the same for a call that may have nothing to run: under Ran the transaction goes on; under Began nothing was committed
pub record GoesOnWhere {S T : Type 0} (Ran Began : Type 0) (g : S → View) (old new : S) (result : Result T Error) : Type 0 where
  pub same_reference : IsSameLedger g old new
  pub running : HasCleanDisk (seen g new) → Ran → OnOk result (IsRunning (seen g new))
  pub uncommitted : HasCleanDisk (seen g new) → Began → KeepsCommit (seen g old) (seen g new)
  pub survives : Survives (seen g old) (seen g new) (λ _. ⊥)

-- the same for a call in a transaction that is not over
abbrev pub GoesOnBegun : {S T : Type 0} → (S → View) → S → S → Result T Error → Type 0
GoesOnBegun g old new result = GoesOnWhere (IsTrue (seen g old).in_transaction) (IsTrue (seen g old).in_transaction) g old new result

-- after a successful call the transaction sees the same tables
abbrev pub Still : {S T : Type 0} → (S → View) → S → S → Result T Error → Type 0
Still g old new result = (v : Version) (tables : Tables) → IsVersion v → Pends v (seen g old) tables → OnOk result (Pends v (seen g new) tables)

-- after a successful call the transaction sees the tables as changed by this function
abbrev pub Turns : {S T : Type 0} → (S → View) → S → S → Result T Error → (Tables → Tables) → Type 0
Turns g old new result after = (v : Version) (tables : Tables) → IsVersion v → Pends v (seen g old) tables → OnOk result (Pends v (seen g new) (after tables))

-- a successful result satisfies this relation to the tables
abbrev pub FindsIn : {S T : Type 0} → (S → View) → S → S → Result T Error → (Tables → T → Type 0) → Type 0
FindsIn g old new result Says = (v : Version) (tables : Tables) → IsVersion v → Pends v (seen g old) tables
    → IsTrue (seen g old).in_transaction → HasCleanDisk (seen g new) → IfOk result (Says tables)

-- the same for tables of version 2
abbrev pub StillSecond : {S T : Type 0} → (S → View) → S → S → Result T Error → Type 0
StillSecond g old new result = (tables : Tables) → Pends v2 (seen g old) tables → OnOk result (Pends v2 (seen g new) tables)

abbrev pub FindsInSecond : {S T : Type 0} → (S → View) → S → S → Result T Error → (Tables → T → Type 0) → Type 0
FindsInSecond g old new result Says = (tables : Tables) → Pends v2 (seen g old) tables
    → IsTrue (seen g old).in_transaction → HasCleanDisk (seen g new) → IfOk result (Says tables)

-- while the connection is open, it has this schema
abbrev pub HasSchema : Schema → State → Type 0
HasSchema schema s = IsTrue s.is_open → s.now.schema ≡ schema

-- while the connection is open, each row obeys its schema
abbrev pub HasWhole : State → Type 0
HasWhole s = IsTrue s.is_open → IsWhole s.now

-- P holds if the definitions of the tables are those of an office
abbrev pub OfOffice : {S : Type 0} → (S → View) → S → S → Type 0 → Type 0
OfOffice g old new P = (v : Version) → IsVersion v → HasSchema v.schema (seen g old)
    → IsTrue (seen g old).in_transaction → HasCleanDisk (seen g new) → P

-- P holds if the definitions of the tables are those of an office, and each row obeys them
abbrev pub OfWholeOffice : {S : Type 0} → (S → View) → S → S → Type 0 → Type 0
OfWholeOffice g old new P = (v : Version) → IsVersion v → HasSchema v.schema (seen g old) → HasWhole (seen g old)
    → IsTrue (seen g old).in_transaction → HasCleanDisk (seen g new) → P

-- after a successful call the transaction sees the same database, if its tables are an office's
abbrev pub SameOffice : {S T : Type 0} → (S → View) → S → S → Result T Error → Type 0
SameOffice g old new result = OfOffice g old new (OnOk result ((seen g new).now ≡ (seen g old).now))

-- a successful result satisfies this relation to the office, if the office is sound
abbrev pub FindsOf : {S T : Type 0} → (S → View) → S → S → Result T Error → (Office → T → Type 0) → Type 0
FindsOf g old new result Says = (v : Version) (s : Office) → IsVersion v → Pends v (seen g old) (tables_of s) → IsSound s
    → IsTrue (seen g old).in_transaction → HasCleanDisk (seen g new) → IfOk result (Says s)
