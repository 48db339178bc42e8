-- What emptying the table `staged` does to an office file.
use Rattle.std.specs.Prelude.{◌≡◌, IsTrue}
use Rattle.sqlite.specs.State.{State, HasCleanDisk}
use Rattle.sqltables.specs.Tables.{NoneStaged, IsEmptied}

-- The connection sees the same as before, if it is open, except for the rows that were staged.
pub record SeesEmptied (old new : State) : Type 0 where
  pub was_open : IsTrue new.is_open → IsTrue old.is_open
  pub now_is : IsTrue new.is_open → IsEmptied old.now new.now
  pub committed_is : IsTrue new.is_open → IsEmptied old.committed new.committed
  pub mode : new.in_transaction ≡ old.in_transaction

-- while the disk has returned what was written, the connection sees no change except that the staged rows are gone
abbrev pub EmptiesStaged : State → State → Type 0
EmptiesStaged old new = HasCleanDisk new → SeesEmptied old new

-- while the connection is open, nothing is staged
abbrev pub HasNoneStaged : State → Type 0
HasNoneStaged s = IsTrue s.is_open → NoneStaged s.now.trees
