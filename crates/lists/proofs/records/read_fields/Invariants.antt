use Rattle.std.proofs.Common.{◌≡◌, ℕ, map, ◌<◌, length}
use Rattle.csv.specs.Records.{fields_of, field_at}
use Rattle.lists.proofs.records.read_fields.Given as goal

abbrev pub invariant-fields : goal.invariant-fields
invariant-fields l = record {
  long : length l.texts ≡ length (fields_of l.row);
  so_far : (k : ℕ) → k < l.i → field_at (map (λ t. t.now) l.texts) k ≡ field_at (fields_of l.row) k;
}
