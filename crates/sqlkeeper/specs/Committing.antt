-- The effect of a call that commits if it succeeds.
use Rattle.std.specs.Prelude.{Result, OnOk, IsTrue}
use Rattle.sqlite.specs.declared.error.Error.{Error}
use Rattle.sqlite.specs.State.{State, HasCleanDisk}
use Rattle.sqltables.specs.Means.{LeavesLast}

-- after a successful call the database is open, and a crash may leave the last commit
abbrev pub EndsOpen : {T : Type 0} → State → Result T Error → Type 0
EndsOpen new result = HasCleanDisk new → OnOk result (IsTrue new.is_open × LeavesLast new)
