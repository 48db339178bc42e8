use Rattle.std.proofs.Common.{◌≡◌, ℕ, map, ◌<◌}
use Rattle.csv.specs.Records.{fields_of, field_at}
use Rattle.lists.proofs.records.is_record.Given as goal

abbrev pub invariant-fields : goal.invariant-fields
invariant-fields l = (k : ℕ) → k < l.i → field_at (fields_of l.row) k ≡ field_at (map (λ f. f.now) l.fields) k
