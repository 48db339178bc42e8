-- A statement that was executed inside a transaction.
use Rattle.std.specs.Prelude.{ℕ, List, IsTrue, Ok}
use Rattle.sqlite_value.specs.Order.{Row}
use Rattle.sqlite.specs.State.{State, ExecutesInside}

-- the transaction was not over, and has executed this statement, which wrote some number of rows
pub record HasRun (sql : List ℕ) (params : Row) (old new : State) : Type 0 where
  pub inside : IsTrue old.in_transaction
  pub count : ℕ
  pub executed : ExecutesInside 0 sql params old new (Ok count)
