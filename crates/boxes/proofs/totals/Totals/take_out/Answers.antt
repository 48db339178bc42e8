use Rattle.std.proofs.Common.{arith}
use Rattle.boxes.proofs.FileTotals.{used_gone, count_gone}
use Rattle.boxes.proofs.totals.Totals.take_out.Goals as goal

pub returns : goal.returns
returns c s place f are there long =
    let u = used_gone s place f there in
    let n = count_gone s place f there in
    let used_is = are.used in
    let count_is = are.count in
    let used_now = c.saturating_sub.ensures in
    let count_now = c.saturating_sub-2.ensures in
    record { used = omega (arith, u, used_is, used_now, long); count = omega (arith, n, count_is, count_now) }
