-- What the work of a command makes of the connection of its office file, and what is left of the file.
use Rattle.std.specs.Prelude.{◌≡◌, ◌≢◌, ◌≤ℤ◌, pos, neg_ℤ, ℕ, List, Result, IsOk, ⊤}
use Rattle.sqlite_disk.specs.declared.Disk as disk
use Rattle.sqlite.specs.State.{State, HasCleanDisk}
use Rattle.sqlite.specs.Files.{file_state}
use Rattle.sqlite.specs.declared.error.Error.{Error}
use Rattle.sigv4.specs.Credential.{IsKeyId, IsSecret}
use Rattle.boxes.specs.State.{State as Office}
use Rattle.boxes.specs.declared.rows.OfficeRow.{OfficeRow}
use Rattle.sqltables.specs.Kept.{KeepsState, LeavesStates}
use Rattle.dropoffice.specs.Leaving.{IsCleanLeft, IsClosed, IsLeftOf, IsLooked, LeavesOffice, MayCrashTo}
use Rattle.dropoffice.specs.declared.files.Purpose.{Purpose}
use Rattle.dropoffice.specs.declared.files.Purpose.TheVariants.{Look}
use Rattle.dropoffice.specs.declared.left.Left.{Left}
use Rattle.dropoffice.specs.declared.left.Left.TheVariants as left

module _ {F D : Type 0} {g : disk.Ghosts D} where
  -- The work on a connection was ended: the connection is handed back if the work only looked, else the file was closed or could
  -- not be closed. What is left means what the connection meant. now: what the connection showed; shut: whether the file was
  -- closed.
  pub record Ends (now : State) (purpose : Purpose) (shut : Result ⊤ Error) (rest : Left F D g) : Type 0 where
    pub closed : IsOk shut → purpose ≢ Look → IsClosed rest
    pub looked : purpose ≡ Look → IsLooked rest
    pub clean : IsCleanLeft rest → HasCleanDisk now
    pub leaves : IsCleanLeft rest → (s : Office) → KeepsState now s → LeavesOffice rest s
    pub crash : IsCleanLeft rest → (s : Office) → KeepsState now s → LeavesStates now → MayCrashTo rest (IsLeftOf now s)

  -- the connection is handed back, and shows a state like this
  abbrev pub IsBack : (State → Type 0) → Left F D g → Type 0
  IsBack Like (left.Looked conn) = Like (file_state conn)
  IsBack Like _ = ⊥

  -- The work was done and ended, or it was not begun and the connection is handed back. done, undone: what the work makes of a
  -- connection, by what the connection showed before and after. show: what a connection shows.
  pub data WorksIn {C W G : Type 0} (show : C → State) (done undone : W → State → G → State → Type 0) (work : W) (old : State) (purpose : Purpose) (gain : G) (shut : Result ⊤ Error) (rest : Left F D g) : Type 0 where
    did : (conn : C) → done work old gain (show conn) → Ends (show conn) purpose shut rest → WorksIn show done undone work old purpose gain shut rest
    failed : IsBack (undone work old gain) rest → WorksIn show done undone work old purpose gain shut rest

module _ {F D W G : Type 0} {g : disk.Ghosts D} where
  -- the same of a connection over files
  abbrev pub WorksOver : (W → State → G → State → Type 0) → (W → State → G → State → Type 0) → W → State → Purpose → G → Result ⊤ Error → Left F D g → Type 0
  WorksOver done undone work old purpose gain shut rest = WorksIn (file_state {D = D} {g = g}) done undone work old purpose gain shut rest

-- a new office may have this row, a clerk's key with this id, and this secret of that key
pub record AreFit (office : OfficeRow) (id text : List ℕ) : Type 0 where
  pub from : neg_ℤ (pos 840) ≤ℤ office.east
  pub to : office.east ≤ℤ pos 840
  pub is_id : IsKeyId id
  pub is_secret : IsSecret text
