use Rattle.std.proofs.Common.{◌≡◌, map, take}
use Rattle.sqlite_value.specs.declared.value.Value.TheVariants.{Int}
use Rattle.sqlite_value.specs.Order.{Row, column}
use Rattle.sqlaudit.proofs.lines.first_numbers.Given as goal

abbrev pub invariant-loop-row : goal.invariant-loop-row
invariant-loop-row l = map (λ (r : Row). column r 0) (take l.row-index l.rows) ≡ map Int l.numbers.items
