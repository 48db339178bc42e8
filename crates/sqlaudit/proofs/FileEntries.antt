-- A line is only one file, and what a file adds to its box.
use Rattle.std.proofs.Common.{◌≡◌, ◌∙◌, ℕ, ◌+◌, ◌-◌, ◌^◌, pos, true, false, cond, List, [], length, Some, None, refl, sym, ap, arith}
use Rattle.std.specs.Prelude.{slice_get, filter, sum_by, min, unwrap_or, option_map}
use Rattle.std.specs.Ordering.{is_eq, eq_by_cmp}
use Rattle.std.specs.Cmp.{tied_itself}
use Rattle.std.specs.FinMap.{FinMap, get, insert, empty, entries}
use Rattle.std.proofs.lemmas.List.Sums.{length-filter}
use Rattle.sigtext.specs.Bytes.{bytes_cmp, same_bytes}
use Rattle.boxes.specs.State.{Place, place_cmp, Receipt}
use Rattle.boxes.specs.declared.totals.Totals.{Totals}
use Rattle.boxes.proofs.Lookups.{equal_is, bytes_same, bytes_total, place_total, no_entries}
use Rattle.boxes.proofs.FileTotals.{place_same, same_as_itself, texts_apart}
use Rattle.boxes.proofs.EntrySums.{weight, sum-insert, sum-filter}
use Rattle.boxes.specs.Maps.{found}
use denote.Bor.{Bor}
use Rattle.sqlaudit.specs.declared.lines.FileLine.{FileLine}
use Rattle.sqlaudit.specs.Outlines.{IsFileEntry, size_in, used_in, count_in}
use Rattle.sqlaudit.specs.Sorting.{IsFiled, AreSums, AddsTo, text_of, capped, used_at, count_at}
use Rattle.sqlaudit.proofs.Entries.{IsFunctional}
use Rattle.sqlaudit.proofs.ReceiptEntries.{one_pos}

pub one_file : IsFunctional IsFileEntry
one_file l j k v w a b =
    let box = sym a.box_is ∙ b.box_is in
    let name = sym a.name_is ∙ b.name_is in
    (λ i. record { box = box i; name = name i }, one_pos v w (sym a.receipt_is ∙ b.receipt_is))

pub one_filed : (rs : List Receipt) → IsFunctional (IsFiled rs)
one_filed rs l j k v w a b = one_file l j k v w a.entry b.entry

less_one : (n : ℕ) → (n + 1) - 1 ≡ n
less_one n = omega arith

pub filed : (rs : List Receipt) (line : FileLine) (at : ℕ) (r : Receipt) → slice_get rs at ≡ Some r → line.receipt ≡ pos (at + 1) → (place : Place) → r.box ≡ place.box → r.name ≡ place.name
    → line.in_box.items ≡ place.box → line.name.items ≡ place.name → IsFiled rs line place (at + 1) × (r.size ≡ size_in (slice_get rs) (at + 1))
filed rs line at r there number place box name in_box called = (
  record {
    entry = record { box_is = in_box; name_is = called; receipt_is = number };
    rule = record { at = at; counted = refl; given = r; listed = there; box = box; name = name };
  },
  sym (ap (λ n. unwrap_or (option_map (λ (x : Receipt). x.size) (slice_get rs n)) 0) (less_one at) ∙ ap (λ o. unwrap_or (option_map (λ (x : Receipt). x.size) o) 0) there),
)

-- ---- sums

abbrev bytes_in : List Receipt → List ℕ → Place × ℕ → ℕ
bytes_in rs box e = cond (same_bytes e.0.box box) (size_in (slice_get rs) e.1) 0

abbrev one_in : List ℕ → Place × ℕ → ℕ
one_in box e = cond (same_bytes e.0.box box) 1 0

module _ (rs : List Receipt) (m : FinMap place_cmp ℕ) (p : Place) (n : ℕ) where
  abbrev with_file : FinMap place_cmp ℕ
  with_file = insert m p n

  used_as : (box : List ℕ) (files : FinMap place_cmp ℕ) → used_in (slice_get rs) files box ≡ sum_by (bytes_in rs box) (entries files)
  used_as box files = sum-filter (λ (e : Place × ℕ). same_bytes e.0.box box) (λ e. size_in (slice_get rs) e.1) (entries files)

  count_as : (box : List ℕ) (files : FinMap place_cmp ℕ) → count_in files box ≡ sum_by (one_in box) (entries files)
  count_as box files = length-filter (λ (e : Place × ℕ). same_bytes e.0.box box) (entries files)

  used_put : (box : List ℕ) → used_in (slice_get rs) with_file box + weight (bytes_in rs box) p (get m p) ≡ used_in (slice_get rs) m box + bytes_in rs box (p, n)
  used_put box = omega (arith, sum-insert place_cmp place_total place_same (bytes_in rs box) m p n, used_as box with_file, used_as box m)

  count_put : (box : List ℕ) → count_in with_file box + weight (one_in box) p (get m p) ≡ count_in m box + one_in box (p, n)
  count_put box = omega (arith, sum-insert place_cmp place_total place_same (one_in box) m p n, count_as box with_file, count_as box m)

  -- the same file again
  pub sums_same : (sums : List (Bor (List ℕ) × Totals)) → AreSums rs m sums → get m p ≡ Some n → AreSums rs with_file sums
  sums_same sums old there = record {
    used = λ box.
        let stood : weight (bytes_in rs box) p (get m p) ≡ bytes_in rs box (p, n) = ap (weight (bytes_in rs box) p) there in
        let same : used_in (slice_get rs) m box ≡ used_in (slice_get rs) with_file box = omega (arith, used_put box, stood) in
        old.used box ∙ ap capped same;
    count = λ box.
        let stood : weight (one_in box) p (get m p) ≡ one_in box (p, n) = ap (weight (one_in box) p) there in
        let same : count_in m box ≡ count_in with_file box = omega (arith, count_put box, stood) in
        old.count box ∙ ap capped same;
  }

  module _ (none : get m p ≡ None) where
    used_more : (box : List ℕ) → used_in (slice_get rs) with_file box ≡ used_in (slice_get rs) m box + bytes_in rs box (p, n)
    used_more box =
        let stood : weight (bytes_in rs box) p (get m p) ≡ 0 = ap (weight (bytes_in rs box) p) none in
        omega (arith, used_put box, stood)

    count_more : (box : List ℕ) → count_in with_file box ≡ count_in m box + one_in box (p, n)
    count_more box =
        let stood : weight (one_in box) p (get m p) ≡ 0 = ap (weight (one_in box) p) none in
        omega (arith, count_put box, stood)

    used_here : used_in (slice_get rs) with_file p.box ≡ used_in (slice_get rs) m p.box + size_in (slice_get rs) n
    used_here = used_more p.box ∙ ap (λ b. used_in (slice_get rs) m p.box + cond b (size_in (slice_get rs) n) 0) (same_as_itself p.box)

    count_here : count_in with_file p.box ≡ count_in m p.box + 1
    count_here = count_more p.box ∙ ap (λ b. count_in m p.box + cond b 1 0) (same_as_itself p.box)

    used_there : (box : List ℕ) → same_bytes p.box box ≡ false → used_in (slice_get rs) with_file box ≡ used_in (slice_get rs) m box
    used_there box apart =
        let mine : bytes_in rs box (p, n) ≡ 0 = ap (λ b. cond b (size_in (slice_get rs) n) 0) apart in
        omega (arith, used_more box, mine)

    count_there : (box : List ℕ) → same_bytes p.box box ≡ false → count_in with_file box ≡ count_in m box
    count_there box apart =
        let mine : one_in box (p, n) ≡ 0 = ap (λ b. cond b 1 0) apart in
        omega (arith, count_more box, mine)

cap_twice : (m a b : ℕ) → min (min a m + b) m ≡ min (a + b) m
cap_twice m a b = omega arith

not_tied : (a b : List ℕ) → eq_by_cmp bytes_cmp b a ≡ false → a ≡ b → ⊥
not_tied a b t e = let same : eq_by_cmp bytes_cmp b a ≡ true = ap (λ x. eq_by_cmp bytes_cmp b x) e ∙ ap is_eq (tied_itself bytes_total b) in cc

-- one more file
pub sums_more : (rs : List Receipt) (m : FinMap place_cmp ℕ) (p : Place) (n : ℕ) (before after : List (Bor (List ℕ) × Totals)) → AreSums rs m before → get m p ≡ None
    → AddsTo p.box (size_in (slice_get rs) n) before after → AreSums rs (insert m p n) after
sums_more rs m p n before after old none adds = record {
  used = λ box. elim (eq_by_cmp bytes_cmp box p.box) as (λ t. eq_by_cmp bytes_cmp box p.box ≡ t → used_at (found bytes_cmp text_of after box) ≡ capped (used_in (slice_get rs) (insert m p n) box)) [
    | true ↦ λ t.
        let here : box ≡ p.box = bytes_same box p.box (equal_is (bytes_cmp box p.box) t) in
        let value : found bytes_cmp text_of after box ≡ Some adds.totals = adds.sets.each box ∙ ap (λ b. cond b (Some adds.totals) (found bytes_cmp text_of before box)) t in
        ap used_at value ∙ adds.used ∙ ap (λ u. capped (u + size_in (slice_get rs) n)) (old.used p.box) ∙ cap_twice (2 ^ 64 - 1) (used_in (slice_get rs) m p.box) (size_in (slice_get rs) n)
        ∙ ap capped (sym (used_here rs m p n none)) ∙ ap (λ b. capped (used_in (slice_get rs) (insert m p n) b)) (sym here)
    | false ↦ λ t.
        let value : found bytes_cmp text_of after box ≡ found bytes_cmp text_of before box = adds.sets.each box ∙ ap (λ b. cond b (Some adds.totals) (found bytes_cmp text_of before box)) t in
        ap used_at value ∙ old.used box ∙ ap capped (sym (used_there rs m p n none box (texts_apart p.box box (not_tied p.box box t))))
  ] refl;
  count = λ box. elim (eq_by_cmp bytes_cmp box p.box) as (λ t. eq_by_cmp bytes_cmp box p.box ≡ t → count_at (found bytes_cmp text_of after box) ≡ capped (count_in (insert m p n) box)) [
    | true ↦ λ t.
        let here : box ≡ p.box = bytes_same box p.box (equal_is (bytes_cmp box p.box) t) in
        let value : found bytes_cmp text_of after box ≡ Some adds.totals = adds.sets.each box ∙ ap (λ b. cond b (Some adds.totals) (found bytes_cmp text_of before box)) t in
        ap count_at value ∙ adds.count ∙ ap (λ u. capped (u + 1)) (old.count p.box) ∙ cap_twice (2 ^ 64 - 1) (count_in m p.box) 1
        ∙ ap capped (sym (count_here rs m p n none)) ∙ ap (λ b. capped (count_in (insert m p n) b)) (sym here)
    | false ↦ λ t.
        let value : found bytes_cmp text_of after box ≡ found bytes_cmp text_of before box = adds.sets.each box ∙ ap (λ b. cond b (Some adds.totals) (found bytes_cmp text_of before box)) t in
        ap count_at value ∙ old.count box ∙ ap capped (sym (count_there rs m p n none box (texts_apart p.box box (not_tied p.box box t))))
  ] refl;
}

-- no files
pub no_sums : (rs : List Receipt) → AreSums rs empty []
no_sums rs = record {
  used = λ box. ap (λ (es : List (Place × ℕ)). capped (sum_by (λ e. size_in (slice_get rs) e.1) (filter (λ e. same_bytes e.0.box box) es))) (sym (no_entries place_cmp));
  count = λ box. ap (λ (es : List (Place × ℕ)). capped (length (filter (λ e. same_bytes e.0.box box) es))) (sym (no_entries place_cmp));
}
