-- The sum that the code tests is the sum in the rule.
use Rattle.std.proofs.Common.{◌≡◌, ◌∙◌, ◌+◌, ◌-◌, ◌≤◌, length, true, false, sym, rules, arith}
use Rattle.std.specs.Prelude.{unwrap_or}
use Rattle.boxes.specs.Rows.{settings_of}
use Rattle.boxes.specs.Totals.{used}
use Rattle.boxes.proofs.Asked.{least_quota, all_new}
use Rattle.boxes.proofs.uploads.check_new_bytes.Goals as goal

pub returns-then-is_within_quota : goal.returns-then-is_within_quota
returns-then-is_within_quota c s u sound view there now size =
    let stands = c.standing_size-stood.ensures s u.place sound view.standing in
    let most = (sound.boxes u.place.box (settings_of c.args.row.now) there).1.quota in
    let stood : c.unwrap_or.result ≡ unwrap_or c.standing_size-stood.result 0 = search rules in
    let kept = view.totals.used in
    let below = (c.is_within_quota.ensures (omega arith)).0 c.if-is_within_quota.true in
    all_new s _ u _ stands (c.in_ok-check_place.ensures s u view now stands) (omega (arith, below, stood, kept, size))

pub returns-else-is_within_quota : goal.returns-else-is_within_quota
returns-else-is_within_quota c s u sound view there now size =
    let stands = c.standing_size-stood.ensures s u.place sound view.standing in
    let most = (sound.boxes u.place.box (settings_of c.args.row.now) there).1.quota in
    let stood : c.unwrap_or.result ≡ unwrap_or c.standing_size-stood.result 0 = search rules in
    let kept = view.totals.used in
    let test = c.is_within_quota.ensures (omega arith) in
    let past : used s u.place.box - unwrap_or c.standing_size-stood.result 0 + length u.bytes ≤ c.args.row.now.quota → ⊥ = λ within.
    let below : c.args.view.now.totals.used - c.unwrap_or.result + c.args.size ≤ c.args.row.now.quota = omega (arith, within, stood, kept, size) in
    true_false (sym (test.1 below) ∙ c.if-is_within_quota.false) in
    least_quota s _ u _ stands (c.in_ok-check_place.ensures s u view now stands) past
  where
    true_false : true ≡ false → ⊥
    true_false e = cc
