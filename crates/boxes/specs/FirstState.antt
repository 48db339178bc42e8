-- The state of a new office.
use Rattle.std.specs.Prelude.{ℕ, ℤ, List, [], false}
use Rattle.std.specs.FinMap.{empty, insert}
use Rattle.boxes.specs.declared.rows.Role.TheVariants.{Clerk}
use Rattle.boxes.specs.State.{State}

-- an offset, an allowance, one unrevoked clerk's key, and nothing else
unfoldable pub first_state : ℤ → ℕ → List ℕ → List ℕ → State
first_state offset allowance id secret = record {
  offset = offset;
  allowance = allowance;
  keys = insert empty id (record { role = Clerk; secret = secret; revoked = false });
  boxes = empty;
  files = empty;
  receipts = [];
  limits = empty;
}
