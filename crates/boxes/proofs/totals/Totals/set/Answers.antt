use Rattle.std.proofs.Common.{◌≡◌, ◌∙◌, ℕ, ◌+◌, ◌-◌, ◌<◌, length, Option, Some, None, sym, ap, arith}
use Rattle.std.specs.Prelude.{option_map, unwrap_or, min}
use Rattle.std.specs.FinMap.{get, insert}
use Rattle.boxes.specs.State.{File, Place, State}
use Rattle.boxes.specs.Totals.{used}
use Rattle.boxes.specs.Rules.{standing_bytes}
use Rattle.boxes.proofs.FileTotals.{ones, used_here, count_here, stands_within}
use Rattle.boxes.proofs.totals.Totals.set.Goals as goal

-- the file and its length are present or absent together
ones_of : (o : Option File) (old : Option ℕ) → old ≡ option_map (λ (g : File). length g.bytes) o → ones o ≡ ones old
ones_of None old e = sym (ap (λ (x : Option ℕ). ones x) e)
ones_of (Some f) old e = sym (ap (λ (x : Option ℕ). ones x) e)

module _ (s : State) (place : Place) (f : File) (old : Option ℕ) (new : ℕ) (long : length f.bytes ≡ new) (stood : old ≡ option_map (λ (g : File). length g.bytes) (get s.files place)) where
  used_set : (kept cut sum : ℕ) → kept ≡ used s place.box → cut ≡ kept - unwrap_or old 0 → sum ≡ min (cut + new) 18446744073709551615 → used s place.box + new < 18446744073709551616
      → sum ≡ used (record s { files = insert s.files place f }) place.box
  used_set kept cut sum is cut_is sum_is low =
      let stands : unwrap_or old 0 ≡ standing_bytes s place = ap (λ (o : Option ℕ). unwrap_or o 0) stood in
      let within = stands_within s place in
      let here = used_here s place f s.receipts in
      omega (arith, is, cut_is, sum_is, low, stands, within, here, long)

  count_set : ones (get s.files place) ≡ ones old
  count_set = ones_of (get s.files place) old stood

pub returns-in-Some : goal.returns-in-Some
returns-in-Some c s place f are long stood low few =
    let stands : ones (get s.files place) ≡ 1 = count_set s place f c.args.old c.args.new long stood ∙ ap (λ (o : Option ℕ). ones o) c.in-Some.is in
    let here = count_here s place f s.receipts in
    let count_is = are.count in
    record {
      used = used_set s place f c.args.old c.args.new long stood c.args.self.used c.saturating_sub.result c.saturating_add-used.result are.used (c.saturating_sub.ensures ∙ ap (λ n. c.args.self.used - n) c.unwrap_or.ensures) c.saturating_add-used.ensures low;
      count = omega (arith, stands, here, count_is);
    }

pub returns-in-None : goal.returns-in-None
returns-in-None c s place f are long stood low few =
    let stands : ones (get s.files place) ≡ 0 = count_set s place f c.args.old c.args.new long stood ∙ ap (λ (o : Option ℕ). ones o) c.in-None.is in
    let here = count_here s place f s.receipts in
    let count_is = are.count in
    let count_now = c.saturating_add-count.ensures in
    record {
      used = used_set s place f c.args.old c.args.new long stood c.args.self.used c.saturating_sub.result c.saturating_add-used.result are.used (c.saturating_sub.ensures ∙ ap (λ n. c.args.self.used - n) c.unwrap_or.ensures) c.saturating_add-used.ensures low;
      count = omega (arith, stands, here, count_is, count_now, few);
    }
