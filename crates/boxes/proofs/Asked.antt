-- Which rules an upload or a fetch obeys, and the lowest that fails.
use Rattle.std.proofs.Common.{◌≡◌, ◌∙◌, ℕ, ◌+◌, ◌-◌, ◌<◌, ◌≤◌, true, false, length, Option, Some, None, refl, sym, ap, subst, arith, inl, inr}
use Rattle.std.specs.Prelude.{IsSome, IsNone, IfSome, IsSomeAnd, option_map, unwrap_or, slice_get}
use Rattle.std.specs.FinMap.{get}
use Rattle.sigtext.specs.declared.refusal.Refusal.{Refusal}
use Rattle.sigtext.specs.declared.refusal.Refusal.TheVariants as rule
use Rattle.sigtext.specs.Refusals.{number_of}
use Rattle.boxes.specs.declared.rows.ReceiptRow.{ReceiptRow}
use Rattle.boxes.specs.State.{Place, File, Receipt, Settings, State}
use Rattle.boxes.specs.Totals.{used}
use Rattle.boxes.specs.Rows.{receipt_in}
use Rattle.boxes.specs.Rules.{Upload, PlaceRule, NewBytesRule, UploadRule, FetchRule, Stands, standing_bytes}
use Rattle.boxes.specs.Steps.{HasReceipt, UploadStep, Kept, again}
use Rattle.boxes.specs.Sound.{IsSound, IsFileOf}
use Rattle.boxes.specs.Views.{IsReceiptAt}
use Rattle.boxes.specs.Deciding.{IsLeastToFail}

-- ---- the receipt of the stored file

-- each number has one receipt
one_receipt : (s : State) (m n : ℕ) (q r : Receipt) → m ≡ n → HasReceipt s m q → HasReceipt s n r → q ≡ r
one_receipt s m n q r e h g =
    let place : h.place ≡ g.place = omega arith in
    let both : Some q ≡ Some r = sym h.listed ∙ ap (λ i. slice_get s.receipts i) place ∙ g.listed in
    cc

some_is : {X : Type 0} (x y : X) → Some x ≡ Some y → x ≡ y
some_is x y e = cc

size_stands : (s : State) (place : Place) (f : File) (row : ReceiptRow) → IsFileOf s place f → row.number ≡ f.receipt → HasReceipt s row.number (receipt_in row)
    → row.size ≡ length f.bytes
size_stands s place f row h e listed =
    let same = one_receipt s row.number f.receipt (receipt_in row) h.receipt e listed h.listed in
    ap (λ (r : Receipt). r.size) same ∙ h.size

-- the receipt's size is the length of the stored file
pub sizes_stand : (s : State) (place : Place) (found : Option ReceiptRow) → IsSound s → IsReceiptAt s place found
    → option_map (λ r. r.size) found ≡ option_map (λ f. length f.bytes) (get s.files place)
sizes_stand s place found sound at =
    elim found as (λ o. found ≡ o → option_map (λ (r : ReceiptRow). r.size) o ≡ option_map (λ (f : File). length f.bytes) (get s.files place)) [
      | None ↦ λ was. elim (get s.files place) as (λ g. get s.files place ≡ g → None ≡ option_map (λ (f : File). length f.bytes) g) [
        | None ↦ λ is. refl
        | Some f ↦ λ is. let clash : None ≡ Some f.receipt = ap (option_map (λ (r : ReceiptRow). r.number)) (sym was) ∙ at.there ∙ ap (option_map (λ (f : File). f.receipt)) is in absurd cc
      ] refl
      | Some row ↦ λ was. elim (get s.files place) as (λ g. get s.files place ≡ g → Some row.size ≡ option_map (λ (f : File). length f.bytes) g) [
        | None ↦ λ is. let clash : Some row.number ≡ None = ap (option_map (λ (r : ReceiptRow). r.number)) (sym was) ∙ at.there ∙ ap (option_map (λ (f : File). f.receipt)) is in absurd cc
        | Some f ↦ λ is.
            let both : Some row.number ≡ Some f.receipt = ap (option_map (λ (r : ReceiptRow). r.number)) (sym was) ∙ at.there ∙ ap (option_map (λ (f : File). f.receipt)) is in
            ap (λ n. Some n) (size_stands s place f row (sound.files place f is) (some_is _ _ both) (at.receipt row was))
      ] refl
    ] refl

-- ---- 27 to 29

-- a rule of places that fails has a number of at most 29
pub place_number : (q : Refusal) (s : State) (place : Place) → (PlaceRule q s place → ⊥) → number_of q ≤ 29
place_number rule.NoSuchBox s place fails = omega arith
place_number rule.NameTooLong s place fails = omega arith
place_number rule.NameNotAllowed s place fails = omega arith
place_number _ s place fails = absurd (fails tt)

-- rules below 29 require nothing of new bytes
early : (r : Refusal) (s : State) (b : Settings) (u : Upload) → number_of r < 29 → NewBytesRule r s b u
early rule.BoxClosed s b u low = absurd (omega arith)
early rule.OtherBytesKept s b u low = absurd (omega arith)
early rule.TooManyFiles s b u low = absurd (omega arith)
early rule.QuotaPassed s b u low = absurd (omega arith)
early _ s b u low = tt

if_some : {X : Type 0} (P : X → Type 0) (o : Option X) → ((x : X) → P x) → IfSome o P
if_some P None each = tt
if_some P (Some x) each = each x

-- ---- 30 to 33

-- all rules below n hold for new bytes, if those of 30 to 33 that are below n do
rules_below : (n : ℕ) (s : State) (b : Settings) (u : Upload) → (30 < n → NewBytesRule rule.BoxClosed s b u) → (31 < n → NewBytesRule rule.OtherBytesKept s b u)
    → (32 < n → NewBytesRule rule.TooManyFiles s b u) → (33 < n → NewBytesRule rule.QuotaPassed s b u) → (r : Refusal) → number_of r < n → NewBytesRule r s b u
rules_below n s b u closed kept many quota rule.BoxClosed low = closed low
rules_below n s b u closed kept many quota rule.OtherBytesKept low = kept low
rules_below n s b u closed kept many quota rule.TooManyFiles low = many low
rules_below n s b u closed kept many quota rule.QuotaPassed low = quota low
rules_below n s b u closed kept many quota _ low = tt

all_rules : (s : State) (b : Settings) (u : Upload) → NewBytesRule rule.BoxClosed s b u → NewBytesRule rule.OtherBytesKept s b u
    → NewBytesRule rule.TooManyFiles s b u → NewBytesRule rule.QuotaPassed s b u → (r : Refusal) → NewBytesRule r s b u
all_rules s b u closed kept many quota rule.BoxClosed = closed
all_rules s b u closed kept many quota rule.OtherBytesKept = kept
all_rules s b u closed kept many quota rule.TooManyFiles = many
all_rules s b u closed kept many quota rule.QuotaPassed = quota
all_rules s b u closed kept many quota _ = tt

-- with the length of the stored file
module _ (s : State) (b : Settings) (u : Upload) (stood : Option ℕ) (stands : stood ≡ option_map (λ f. length f.bytes) (get s.files u.place)) where
  -- the rules 30 to 32
  abbrev Placed : Type 0
  Placed = NewBytesRule rule.BoxClosed s b u × NewBytesRule rule.OtherBytesKept s b u × NewBytesRule rule.TooManyFiles s b u

  abbrev Within : Type 0
  Within = used s u.place.box - unwrap_or stood 0 + length u.bytes ≤ b.quota

  same_bound : (unwrap_or stood 0) ≡ standing_bytes s u.place
  same_bound = ap (λ (o : Option ℕ). unwrap_or o 0) stands

  pub least_quota : Placed → (Within → ⊥) → IsLeastToFail (λ r. NewBytesRule r s b u) rule.QuotaPassed
  least_quota (opened, kept, room) past = record {
    before = λ r low. rules_below 33 s b u (λ l. opened) (λ l. kept) (λ l. room) (λ l. absurd (omega arith)) r low;
    fails = λ h. past (subst (λ (n : ℕ). used s u.place.box - n + length u.bytes ≤ b.quota) (sym same_bound) h);
  }

  pub all_new : Placed → Within → (r : Refusal) → NewBytesRule r s b u
  all_new (opened, kept, room) within =
      all_rules s b u opened kept room (subst (λ (n : ℕ). used s u.place.box - n + length u.bytes ≤ b.quota) same_bound within)

-- ---- an upload

module _ (s : State) (u : Upload) where
  -- if a rule refuses the place of an upload, the same rule refuses the upload
  pub refused_at_place : (q : Refusal) → IsLeastToFail (λ r. PlaceRule r s u.place) q → IsLeastToFail (λ r. UploadRule r s u) q
  refused_at_place q h =
      let low = place_number q s u.place h.fails in
      record {
        before = λ r less. (h.before r less, inr (if_some (λ b. NewBytesRule r s b u) (get s.boxes u.place.box) (λ b. early r s b u (omega arith))));
        fails = λ up. h.fails up.0;
      }

  pub rules_of_repeat : ((r : Refusal) → PlaceRule r s u.place) → Stands s u → (r : Refusal) → UploadRule r s u
  rules_of_repeat place stands r = (place r, inl stands)

  stands_there : (o : Option File) → IsSomeAnd o (λ f. f.bytes ≡ u.bytes) → (f : File) × (o ≡ Some f) × (f.bytes ≡ u.bytes)
  stands_there None h = absurd h
  stands_there (Some f) h = (f, refl, h)

  pub repeat_step : (found : Option ReceiptRow) (row : ReceiptRow) → found ≡ Some row → IsReceiptAt s u.place found → Stands s u
      → UploadStep s u (Kept row.number (receipt_in row)) s
  repeat_step found row was at stands =
      let it = stands_there (get s.files u.place) stands in
      let both : Some row.number ≡ Some it.0.receipt = ap (option_map (λ (r : ReceiptRow). r.number)) (sym was) ∙ at.there ∙ ap (option_map (λ (f : File). f.receipt)) it.1 in
      let same = some_is row.number it.0.receipt both in
      subst (λ (n : ℕ). UploadStep s u (Kept n (receipt_in row)) s) (sym same)
      (again it.0 (receipt_in row) it.1 it.2 (subst (λ (n : ℕ). HasReceipt s n (receipt_in row)) same (at.receipt row was)))

-- ---- a fetch

place_of_fetch : (r : Refusal) (s : State) (place : Place) → FetchRule r s place → PlaceRule r s place
place_of_fetch rule.NoSuchFile s place h = tt
place_of_fetch rule.NoSuchBox s place h = h
place_of_fetch rule.NameTooLong s place h = h
place_of_fetch rule.NameNotAllowed s place h = h
place_of_fetch _ s place h = tt

fetch_of_place : (r : Refusal) (s : State) (place : Place) → number_of r < 34 → PlaceRule r s place → FetchRule r s place
fetch_of_place rule.NoSuchFile s place low h = absurd (omega arith)
fetch_of_place rule.NoSuchBox s place low h = h
fetch_of_place rule.NameTooLong s place low h = h
fetch_of_place rule.NameNotAllowed s place low h = h
fetch_of_place _ s place low h = tt

pub rules_of_fetch : (s : State) (place : Place) → IsSome (get s.files place) → ((r : Refusal) → PlaceRule r s place) → (r : Refusal) → FetchRule r s place
rules_of_fetch s place there h rule.NoSuchFile = there
rules_of_fetch s place there h rule.NoSuchBox = h rule.NoSuchBox
rules_of_fetch s place there h rule.NameTooLong = h rule.NameTooLong
rules_of_fetch s place there h rule.NameNotAllowed = h rule.NameNotAllowed
rules_of_fetch s place there h _ = tt

pub fetch_refused_at_place : (s : State) (place : Place) (q : Refusal) → IsLeastToFail (λ r. PlaceRule r s place) q → IsLeastToFail (λ r. FetchRule r s place) q
fetch_refused_at_place s place q h =
    let low = place_number q s place h.fails in
    record {
      before = λ r less. fetch_of_place r s place (omega arith) (h.before r less);
      fails = λ f. h.fails (place_of_fetch q s place f);
    }

pub least_no_file : (s : State) (place : Place) → ((r : Refusal) → PlaceRule r s place) → IsNone (get s.files place) → IsLeastToFail (λ r. FetchRule r s place) rule.NoSuchFile
least_no_file s place h none = record {
  before = λ r less. fetch_of_place r s place less (h r);
  fails = λ there. false_true (sym none ∙ there);
}
  where
    false_true : false ≡ true → ⊥
    false_true e = cc
