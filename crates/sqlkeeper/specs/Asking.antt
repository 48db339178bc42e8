-- The answer and the effect of a query to the office file.
use Rattle.std.specs.Prelude.{Result, IfOk, OnOk, IsTrue}
use Rattle.sqlite.specs.declared.error.Error.{Error}
use Rattle.sqlite.specs.State.{State, HasCleanDisk}
use Rattle.boxes.specs.State.{State as Office}
use Rattle.boxes.specs.Sound.{IsSound}
use Rattle.sqltables.specs.Schema.{v2}
use Rattle.sqltables.specs.Means.{Means, AddsOnly}

-- an answer satisfies this relation to the office, if the office is sound and the disk has returned what was written
abbrev pub AnswersOf : {T : Type 0} → State → State → Result T Error → (Office → T → Type 0) → Type 0
AnswersOf old new result Says = (s : Office) → Means v2 old s → IsSound s → HasCleanDisk new → IfOk result (Says s)

-- The effect of a query, whatever its result: the office is the same, a crash leaves nothing new except that office, no fault
-- of the disk is forgotten, and after a successful query the database is open.
pub record LeavesOffice {T : Type 0} (old new : State) (result : Result T Error) : Type 0 where
  pub kept : (s : Office) → Means v2 old s → Means v2 new s
  pub crash : (s : Office) → Means v2 old s → AddsOnly v2 old new s
  pub honest : HasCleanDisk new → HasCleanDisk old
  pub opened : HasCleanDisk new → OnOk result (IsTrue new.is_open)
