use Rattle.std.proofs.Common.{rules, ◌≡◌, ◌<◌, ℕ, Bool, length, slice_index_or}
use Rattle.sqltables.proofs.RuleTexts.{digit, are_digits}
use Rattle.sqltables.proofs.reading.digits_of_days.Goals as goal

pub returns : goal.returns
returns c =
    let each : (i : ℕ) (d : Bool) (e : ℕ) → i < 7 → slice_index_or c.map.result i e ≡ digit (slice_index_or c.args.days i d) =
    λ i d e low. let called = (c.map.ensures.items.at i d e low).2.met in search rules in
    let week : length c.args.days ≡ 7 = search rules in
    record { value = are_digits c.args.days c.map.result c.map.ensures.items.long week each }
