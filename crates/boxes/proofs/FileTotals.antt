-- Totals of the state after a file was set or removed.
use Rattle.std.proofs.Common.{◌≡◌, ℕ, ◌+◌, ◌≤◌, true, false, cond, List, [], length, Option, Some, None, refl, ap, arith, eqb}
use Rattle.std.specs.Prelude.{sum_by, unwrap_or, option_map}
use Rattle.std.specs.Cmp.Lexicographic.{pointwise}
use Rattle.std.specs.FinMap.{get, insert, remove, entries, IsAntisymmetric}
use Rattle.std.proofs.lemmas.Bool.Decides.{Decides-eqb}
use Rattle.std.proofs.lemmas.List.Sums.{length-filter}
use Rattle.std.proofs.lemmas.Map.Lookups.{exact_pairs}
use Rattle.std.proofs.lemmas.Slice.Eq.{slice_eq-Decides}
use Rattle.sigtext.specs.Bytes.{bytes_cmp, same_bytes}
use Rattle.boxes.specs.State.{Place, place_cmp, File, Receipt, State}
use Rattle.boxes.specs.Totals.{used, count}
use Rattle.boxes.specs.Rules.{standing_bytes}
use Rattle.boxes.proofs.Lookups.{bytes_same, place_total}
use Rattle.boxes.proofs.EntrySums.{weight, sum-insert, sum-remove, sum-filter}

-- 1 if there is a value, otherwise 0
abbrev pub ones : {X : Type 0} → Option X → ℕ
ones None = 0
ones (Some x) = 1

pub place_same : IsAntisymmetric place_cmp
place_same a b e =
    let pairs = exact_pairs bytes_cmp bytes_cmp bytes_same bytes_same (a.box, a.name) (b.box, b.name) e in
    ap (λ (p : List ℕ × List ℕ). record { box = p.0; name = p.1 }) pairs

pub same_as_itself : (a : List ℕ) → same_bytes a a ≡ true
same_as_itself a = (slice_eq-Decides Decides-eqb a a (pointwise eqb a a) refl).1 refl

pub texts_alike : (a b : List ℕ) → same_bytes a b ≡ true → a ≡ b
texts_alike a b e = (slice_eq-Decides Decides-eqb a b (pointwise eqb a b) refl).0 e

pub texts_apart : (a b : List ℕ) → (a ≡ b → ⊥) → same_bytes a b ≡ false
texts_apart a b n = elim (same_bytes a b) as (λ t. same_bytes a b ≡ t → t ≡ false) [ true ↦ λ e. absurd (n ((slice_eq-Decides Decides-eqb a b (pointwise eqb a b) refl).0 e)) | false ↦ λ e. refl ] refl

-- what a file adds to the totals of a box: the number of its bytes, and one file
abbrev bytes_in : List ℕ → Place × File → ℕ
bytes_in box e = cond (same_bytes e.0.box box) (length e.1.bytes) 0

abbrev one_in : List ℕ → Place × File → ℕ
one_in box e = cond (same_bytes e.0.box box) 1 0

-- the totals are the sums of these
used_sum : (s : State) (box : List ℕ) → used s box ≡ sum_by (bytes_in box) (entries s.files)
used_sum s box = sum-filter (λ (e : Place × File). same_bytes e.0.box box) (λ e. length e.1.bytes) (entries s.files)

count_sum : (s : State) (box : List ℕ) → count s box ≡ sum_by (one_in box) (entries s.files)
count_sum s box = length-filter (λ (e : Place × File). same_bytes e.0.box box) (entries s.files)

module _ (s : State) (place : Place) (f : File) (rs : List Receipt) where
  -- the state with the file set
  abbrev pub with_file : State
  with_file = record s { files = insert s.files place f; receipts = rs }

  used_put : (box : List ℕ) → used with_file box + weight (bytes_in box) place (get s.files place) ≡ used s box + bytes_in box (place, f)
  used_put box = omega (arith, sum-insert place_cmp place_total place_same (bytes_in box) s.files place f, used_sum with_file box, used_sum s box)

  count_put : (box : List ℕ) → count with_file box + weight (one_in box) place (get s.files place) ≡ count s box + one_in box (place, f)
  count_put box = omega (arith, sum-insert place_cmp place_total place_same (one_in box) s.files place f, count_sum with_file box, count_sum s box)

  pub used_here : used with_file place.box + standing_bytes s place ≡ used s place.box + length f.bytes
  used_here =
      let mine : bytes_in place.box (place, f) ≡ length f.bytes = ap (λ b. cond b (length f.bytes) 0) (same_as_itself place.box) in
      let stood : weight (bytes_in place.box) place (get s.files place) ≡ standing_bytes s place =
      ap (λ b. unwrap_or (option_map (λ (x : File). cond b (length x.bytes) 0) (get s.files place)) 0) (same_as_itself place.box) in
      omega (arith, used_put place.box, mine, stood)

  pub count_here : count with_file place.box + ones (get s.files place) ≡ count s place.box + 1
  count_here =
      let mine : one_in place.box (place, f) ≡ 1 = ap (λ b. cond b 1 0) (same_as_itself place.box) in
      let stood : weight (one_in place.box) place (get s.files place) ≡ ones (get s.files place) =
      elim (get s.files place) as (λ o. weight (one_in place.box) place o ≡ ones o) [ None ↦ refl | Some x ↦ ap (λ b. cond b 1 0) (same_as_itself place.box) ] in
      omega (arith, count_put place.box, mine, stood)

  -- a file of another box adds nothing
  none_stood : (box : List ℕ) (n : File → ℕ) → same_bytes place.box box ≡ false → weight (λ e. cond (same_bytes e.0.box box) (n e.1) 0) place (get s.files place) ≡ 0
  none_stood box n apart = elim (get s.files place) as (λ o. weight (λ e. cond (same_bytes e.0.box box) (n e.1) 0) place o ≡ 0) [ None ↦ refl | Some x ↦ ap (λ b. cond b (n x) 0) apart ]

  pub used_there : (box : List ℕ) → same_bytes place.box box ≡ false → used with_file box ≡ used s box
  used_there box apart =
      let mine : bytes_in box (place, f) ≡ 0 = ap (λ b. cond b (length f.bytes) 0) apart in
      omega (arith, used_put box, mine, none_stood box (λ x. length x.bytes) apart)

  pub count_there : (box : List ℕ) → same_bytes place.box box ≡ false → count with_file box ≡ count s box
  count_there box apart =
      let mine : one_in box (place, f) ≡ 0 = ap (λ b. cond b 1 0) apart in
      omega (arith, count_put box, mine, none_stood box (λ x. 1) apart)

module _ (s : State) (place : Place) (f : File) (there : get s.files place ≡ Some f) where
  -- the state without the file
  abbrev pub without_file : State
  without_file = record s { files = remove s.files place }

  used_left : (box : List ℕ) → used without_file box + bytes_in box (place, f) ≡ used s box
  used_left box = omega (arith, sum-remove place_cmp place_total place_same (bytes_in box) s.files place f there, used_sum without_file box, used_sum s box)

  count_left : (box : List ℕ) → count without_file box + one_in box (place, f) ≡ count s box
  count_left box = omega (arith, sum-remove place_cmp place_total place_same (one_in box) s.files place f there, count_sum without_file box, count_sum s box)

  pub used_less : (box : List ℕ) → used without_file box ≤ used s box
  used_less box = omega (arith, used_left box)

  pub count_less : (box : List ℕ) → count without_file box ≤ count s box
  count_less box = omega (arith, count_left box)

  pub used_gone : used without_file place.box + length f.bytes ≡ used s place.box
  used_gone =
      let mine : bytes_in place.box (place, f) ≡ length f.bytes = ap (λ b. cond b (length f.bytes) 0) (same_as_itself place.box) in
      omega (arith, used_left place.box, mine)

  pub count_gone : count without_file place.box + 1 ≡ count s place.box
  count_gone =
      let mine : one_in place.box (place, f) ≡ 1 = ap (λ b. cond b 1 0) (same_as_itself place.box) in
      omega (arith, count_left place.box, mine)

  pub used_still : (box : List ℕ) → same_bytes place.box box ≡ false → used without_file box ≡ used s box
  used_still box apart =
      let mine : bytes_in box (place, f) ≡ 0 = ap (λ b. cond b (length f.bytes) 0) apart in
      omega (arith, used_left box, mine)

  pub count_still : (box : List ℕ) → same_bytes place.box box ≡ false → count without_file box ≡ count s box
  count_still box apart =
      let mine : one_in box (place, f) ≡ 0 = ap (λ b. cond b 1 0) apart in
      omega (arith, count_left box, mine)

-- the bytes stored at a place are at most the bytes that its box holds
pub stands_within : (s : State) (place : Place) → standing_bytes s place ≤ used s place.box
stands_within s place =
    let e = used_here s place (record { bytes = []; receipt = 0 }) s.receipts in
    omega (arith, e)
