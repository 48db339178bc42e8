use Rattle.std.proofs.Common.{◌≡◌, ◌<◌, ℕ, pos, get_or, length}
use Rattle.sqlite_value.specs.declared.value.Value.TheVariants.{Int}
use Rattle.sqlite_value.specs.Order.{column}
use Rattle.sqlaudit.proofs.lines.integers.Given as goal

abbrev pub invariant-loop-at : goal.invariant-loop-at
invariant-loop-at g l = (length l.numbers ≡ g.row.N) × ((k : ℕ) → k < l.at → column l.row (get_or l.columns k 0) ≡ Int (get_or l.numbers k (pos 0)))
