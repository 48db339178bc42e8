-- What a shelf finds.
use Rattle.std.proofs.Common.{◌≡◌, ◌∙◌, ℕ, zero, suc, ◌+◌, List, [], ◌∷◌, length, Option, Some, None, refl, sym, ap, subst, arith}
use Rattle.std.specs.Prelude.{◌↔◌, Bool, false, option_map, slice_get, IsSomeAnd, IsTrue}
use Rattle.std.specs.FinMap.{get}
use Rattle.std.proofs.lemmas.Bool.Decides.{Decides-eqb}
use Rattle.std.proofs.lemmas.Slice.Eq.{slice_eq-Decides}
use Rattle.sigtext.specs.Bytes.{same_bytes}
use Rattle.std.proofs.lemmas.List.{length-map}
use Rattle.std.proofs.lemmas.Option.{slice_get-map}
use Rattle.boxes.specs.declared.rows.ReceiptRow.{ReceiptRow}
use Rattle.boxes.specs.declared.rows.FileRow.{FileRow}
use Rattle.boxes.specs.State.{Place, place_cmp, File, Receipt, State}
use Rattle.boxes.specs.Rows.{numbered, numbered_receipt, receipt_in, IsFileAt}
use Rattle.boxes.specs.Rules.{HasBytes}
use Rattle.boxes.specs.Steps.{HasReceipt}
use Rattle.boxes.specs.Views.{IsReceiptAt}
use Rattle.shelf.specs.declared.shelf.Shelf.{Shelf}
use Rattle.shelf.specs.declared.shelf.StoredFile.{StoredFile}
use Rattle.shelf.specs.Maps.{found}
use Rattle.shelf.specs.Shelves.{Holds, place_of, stored_file}

length-numbered : (n : ℕ) (rs : List Receipt) → length (numbered n rs) ≡ length rs
length-numbered n [] = refl
length-numbered n (r ∷ rs) = ap suc (length-numbered (n + 1) rs)

-- the shelf keeps as many receipts as the state has
pub as_many : (k : Shelf) (s : State) → Holds k s → length k.receipts.items ≡ length s.receipts
as_many k s h = sym (length-map k.receipts.items numbered_receipt) ∙ ap length h.receipts ∙ length-numbered 1 s.receipts

numbered-at : (n : ℕ) (rs : List Receipt) (i : ℕ) → slice_get (numbered n rs) i ≡ option_map (λ r. (n + i, r)) (slice_get rs i)
numbered-at n [] i = refl
numbered-at n (r ∷ rs) zero = ap (λ k. Some (k, r)) (let e : n ≡ n + 0 = omega arith in e)
numbered-at n (r ∷ rs) (suc i) = numbered-at (n + 1) rs i ∙ ap (λ k. option_map (λ x. (k, x)) (slice_get rs i)) (let e : n + 1 + i ≡ n + suc i = omega arith in e)

numbered_some : (k : ℕ) (o : Option Receipt) (p : ℕ × Receipt) → option_map (λ r. (k, r)) o ≡ Some p → (o ≡ Some p.1) × (p.0 ≡ k)
numbered_some k None p e = absurd cc
numbered_some k (Some r) p e =
    let same : ◌≡◌ {A = ℕ × Receipt} (k, r) p = cc in
    (ap (λ (q : ℕ × Receipt). Some q.1) same, sym (ap (λ (q : ℕ × Receipt). q.0) same))

pub file_at : (k : Shelf) (s : State) (place : Place) (stored : StoredFile) (receipt : ReceiptRow) (at : ℕ) (copy : FileRow) → Holds k s
    → found place_cmp place_of k.files.entries place ≡ Some stored → stored.number ≡ at + 1 → slice_get k.receipts.items at ≡ Some receipt
    → copy.bytes.items ≡ stored.bytes.items → numbered_receipt copy.receipt ≡ numbered_receipt receipt → IsFileAt s place (Some copy)
file_at k s place stored receipt at copy h there number listed bytes given =
    let shown : slice_get (numbered 1 s.receipts) at ≡ Some (numbered_receipt receipt) =
    ap (λ (l : List (ℕ × Receipt)). slice_get l at) (sym h.receipts) ∙ slice_get-map numbered_receipt k.receipts.items at ∙ ap (option_map numbered_receipt) listed in
    let one = numbered_some (1 + at) (slice_get s.receipts at) (numbered_receipt receipt) (sym (numbered-at 1 s.receipts at) ∙ shown) in
    let same : copy.receipt.number ≡ stored.number = ap (λ (p : ℕ × Receipt). p.0) given ∙ one.1 ∙ (let e : 1 + at ≡ stored.number = omega arith in e) in
    let is : HasReceipt s copy.receipt.number (receipt_in copy.receipt) = record {
      place = at;
      counted = same ∙ number;
      listed = one.0 ∙ ap (λ (p : ℕ × Receipt). Some p.1) (sym given);
    } in
    record {
      file = ap (λ (f : File). Some f) (ap (λ (b : List ℕ). record { bytes = b; receipt = copy.receipt.number }) bytes ∙ ap (λ n. record { bytes = stored.bytes.items; receipt = n }) same)
          ∙ sym (h.files.each place ∙ ap (option_map stored_file) there);
      receipt = λ f e. let it : copy ≡ f = cc in subst (λ (x : FileRow). HasReceipt s x.receipt.number (receipt_in x.receipt)) it is;
    }

-- the same for the file's receipt alone
pub receipt_at : (k : Shelf) (s : State) (place : Place) (stored : StoredFile) (receipt : ReceiptRow) (at : ℕ) (copy : ReceiptRow) → Holds k s
    → found place_cmp place_of k.files.entries place ≡ Some stored → stored.number ≡ at + 1 → slice_get k.receipts.items at ≡ Some receipt
    → numbered_receipt copy ≡ numbered_receipt receipt → IsReceiptAt s place (Some copy)
receipt_at k s place stored receipt at copy h there number listed given =
    let f : FileRow = record { bytes = stored.bytes; receipt = copy } in
    let is = file_at k s place stored receipt at f h there number listed refl given in
    record {
      there = ap (option_map (λ (x : File). x.receipt)) is.file;
      receipt = λ r e. let same : copy ≡ r = cc in subst (λ (x : ReceiptRow). HasReceipt s x.number (receipt_in x)) same (is.receipt f refl);
    }

-- whether the file that was found has these bytes
pub bytes_found : (k : Shelf) (s : State) (place : Place) (stored : StoredFile) (bytes held staged : List ℕ) (test : Bool) → Holds k s
    → found place_cmp place_of k.files.entries place ≡ Some stored → held ≡ stored.bytes.items → staged ≡ bytes → test ≡ same_bytes held staged
    → IsTrue test ↔ HasBytes s place bytes
bytes_found k s place stored bytes held staged test h there is was tested =
    let stands : get s.files place ≡ Some (stored_file stored) = h.files.each place ∙ ap (option_map stored_file) there in
    let decides = slice_eq-Decides Decides-eqb held staged test tested in
    subst (λ (o : Option File). IsTrue test ↔ IsSomeAnd o (λ f. f.bytes ≡ bytes)) (sym stands)
    (λ yes. sym is ∙ decides.0 yes ∙ was, λ same. decides.1 (is ∙ same ∙ sym was))

-- no file was found
pub no_bytes_found : (k : Shelf) (s : State) (place : Place) (bytes : List ℕ) → Holds k s → found place_cmp place_of k.files.entries place ≡ None
    → IsTrue false ↔ HasBytes s place bytes
no_bytes_found k s place bytes h there =
    let none : get s.files place ≡ None = h.files.each place ∙ ap (option_map stored_file) there in
    subst (λ (o : Option File). IsTrue false ↔ IsSomeAnd o (λ f. f.bytes ≡ bytes)) (sym none) (λ yes. absurd cc, λ has. absurd has)
