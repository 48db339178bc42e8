-- A savepoint within a transaction that it did not begin.
use Rattle.std.specs.Prelude.{◌≡◌, ◌<◌, ℕ, false, length, IsTrue}
use Rattle.sqlite.specs.State.{State, HasCleanDisk, begins_at}

-- while the transaction is pending, the savepoint at this place is there and did not begin it
abbrev pub IsApart : State → ℕ → Type 0
IsApart s at = HasCleanDisk s → IsTrue s.in_transaction → (at < length s.marks) × (begins_at s at ≡ false)
