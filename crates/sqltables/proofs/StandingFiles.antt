-- The file at a place in a sound state, its receipt, and what the tables say about them.
use Rattle.std.proofs.Common.{◌≡◌, ℕ, ◌+◌, List, length, Option, Some, None, Result, Ok, Err, IfOk, option_map, option_and_then, slice_get, refl, sym, ap, subst, ◌∙◌}
use Rattle.std.specs.FinMap.{get}
use Rattle.boxes.specs.declared.rows.ReceiptRow.{ReceiptRow}
use Rattle.boxes.specs.declared.rows.FileRow.{FileRow}
use Rattle.boxes.specs.State.{Place, File, Receipt, State}
use Rattle.boxes.specs.Rows.{IsFileAt, receipt_in}
use Rattle.boxes.specs.Sound.{IsSound, IsReceipt, IsDigest, IsFileOf}
use Rattle.boxes.specs.Steps.{HasReceipt}
use Rattle.boxes.specs.Views.{IsReceiptAt}
use Rattle.boxes.proofs.NoBox.{all_at}
use Rattle.sqltables.specs.Tables.{tables_of, piece_of}
use Rattle.sqltables.specs.Questions.{IsReceiptOf}

pub if_ok_more : {X E : Type 0} (P Q : X → Type 0) (r : Result X E) → ((x : X) → P x → Q x) → IfOk r P → IfOk r Q
if_ok_more P Q (Ok x) more h = more x h
if_ok_more P Q (Err e) more h = tt

-- the file whose number is in the tables
pub record Standing (s : State) (place : Place) (number : ℕ) : Type 0 where
  pub file : File
  pub there : get s.files place ≡ Some file
  pub number_is : file.receipt ≡ number

pub standing : (s : State) (place : Place) (number : ℕ) → (tables_of s).file place ≡ Some number → Standing s place number
standing s place number is = go (get s.files place) refl
  where
    go : (o : Option File) → get s.files place ≡ o → Standing s place number
    go None none = let e = rw none at is in cc
    go (Some f) some = let e = rw some at is in let same : f.receipt ≡ number = cc in record { file = f; there = some; number_is = same }

pub none_standing : (s : State) (place : Place) → (tables_of s).file place ≡ None → get s.files place ≡ None
none_standing s place is = go (get s.files place) refl
  where
    go : (o : Option File) → get s.files place ≡ o → get s.files place ≡ None
    go None none = none
    go (Some f) some = let e = rw some at is in cc

pub digests : (s : State) → IsSound s → (at : ℕ) (r : Receipt) → slice_get s.receipts at ≡ Some r → IsDigest r.digest
digests s sound at r is = (all_at (IsReceipt s) s.receipts at r sound.receipts is).digest

module _ (s : State) (sound : IsSound s) (place : Place) (number : ℕ) (it : Standing s place number) where
  abbrev pub kept : IsFileOf s place it.file
  kept = sound.files place it.file it.there

  -- the position of its receipt
  pub listed_at : number ≡ kept.listed.place + 1
  listed_at = sym it.number_is ∙ kept.listed.counted

  pub receipt_found : (found : Option ReceiptRow) → IsReceiptOf number (slice_get s.receipts kept.listed.place) found → IsReceiptAt s place found
  receipt_found None h = let e = h.0 ∙ kept.listed.listed in cc
  receipt_found (Some r) h =
      let e : Some (receipt_in r) ≡ slice_get s.receipts kept.listed.place = h.0 in
      let n : r.number ≡ number = h.1 r refl in
      record {
        there = ap Some (n ∙ sym it.number_is) ∙ sym (ap (option_map (λ f. f.receipt)) it.there);
        receipt = λ q is. let same : r ≡ q = cc in subst (λ (x : ReceiptRow). HasReceipt s x.number (receipt_in x)) same (record { place = kept.listed.place; counted = n ∙ listed_at; listed = sym e });
      }

-- the receipt that was found gives the length
module _ (s : State) (sound : IsSound s) (place : Place) (r : ReceiptRow) (found : IsReceiptAt s place (Some r)) where
  pub there_too : (o : Option File) → get s.files place ≡ o → (f : File) × (get s.files place ≡ Some f) × (r.number ≡ f.receipt)
  there_too None none = let e = found.there ∙ ap (option_map (λ f. f.receipt)) none in cc
  there_too (Some f) some = let e = found.there ∙ ap (option_map (λ f. f.receipt)) some in (f, some, cc)

  abbrev pub at_place : (f : File) × (get s.files place ≡ Some f) × (r.number ≡ f.receipt)
  at_place = there_too (get s.files place) refl

  pub size_is : length at_place.0.bytes ≡ r.size
  size_is =
      let it = sound.files place at_place.0 at_place.1 in
      let mine = found.receipt r refl in
      let spot : mine.place ≡ it.listed.place = omega (Rattle.std.proofs.Common.arith, mine.counted, it.listed.counted, at_place.2) in
      let both : Some (receipt_in r) ≡ Some it.receipt = sym mine.listed ∙ ap (slice_get s.receipts) spot ∙ it.listed.listed in
      let same : receipt_in r ≡ it.receipt = cc in
      sym (ap (λ (x : Receipt). x.size) same ∙ it.size)

  pub pieces_are : (n : ℕ) → (tables_of s).piece (record { place = place; at = n }) ≡ piece_of at_place.0.bytes n
  pieces_are n = ap (option_and_then (λ (f : File). piece_of f.bytes n)) at_place.1

  pub file_found : (f : FileRow) → f.bytes.items ≡ at_place.0.bytes → f.receipt ≡ r → IsFileAt s place (Some f)
  file_found f bytes same = record {
    file = (λ i. Some (record { bytes = bytes i; receipt = (ap (λ (x : ReceiptRow). x.number) same ∙ at_place.2) i })) ∙ sym at_place.1;
    receipt = λ g is. let e : f ≡ g = cc in found.receipt g.receipt (ap Some (sym same ∙ ap (λ (x : FileRow). x.receipt) e));
  }

  pub told_size : Some r.size ≡ option_map (λ (f : File). length f.bytes) (get s.files place)
  told_size = ap Some (sym size_is) ∙ sym (ap (option_map (λ (f : File). length f.bytes)) at_place.1)

pub no_size : (s : State) (place : Place) → IsReceiptAt s place None → None ≡ option_map (λ (f : File). length f.bytes) (get s.files place)
no_size s place found = go (get s.files place) refl
  where
    go : (o : Option File) → get s.files place ≡ o → None ≡ option_map (λ (f : File). length f.bytes) (get s.files place)
    go None none = sym (ap (option_map (λ (f : File). length f.bytes)) none)
    go (Some f) some = let e = found.there ∙ ap (option_map (λ (g : File). g.receipt)) some in cc
