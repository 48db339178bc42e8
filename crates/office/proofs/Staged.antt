-- Whether the staged bytes are already stored, by the receipt of what is there.
use Rattle.std.proofs.Common.{◌≡◌, ◌∙◌, ℕ, List, true, Option, Some, None, length, refl, ap, subst}
use Rattle.std.specs.Cmp.Lexicographic.{pointwise}
use Rattle.std.specs.Prelude.{option_map, nat_eq, IsSomeAnd}
use Rattle.std.proofs.lemmas.Cmp.{nat_list_eq_equiv}
use Rattle.std.specs.FinMap.{get}
use Rattle.sigv4.specs.Hmac.{sha256}
use Rattle.boxes.specs.declared.rows.ReceiptRow.{ReceiptRow}
use Rattle.boxes.specs.Rows.{receipt_in}
use Rattle.boxes.specs.Rules.{Stands, Upload}
use Rattle.boxes.specs.Sound.{IsSound}
use Rattle.boxes.specs.State.{File, Receipt, State}
use Rattle.boxes.specs.Steps.{HasReceipt}
use Rattle.boxes.specs.Views.{IsReceiptAt}
use Rattle.office.proofs.Standing.{receipt_once}

-- the file that is there
record Holds (s : State) (u : Upload) : Type 0 where
  file : File
  there : get s.files u.place ≡ Some file
  bytes : file.bytes ≡ u.bytes

found : (s : State) (u : Upload) (o : Option File) → get s.files u.place ≡ o → Stands s u → Holds s u
found s u None e stands = absurd (subst (λ (x : Option File). IsSomeAnd x (λ f. f.bytes ≡ u.bytes)) e stands)
found s u (Some f) e stands = record { file = f; there = e; bytes = subst (λ (x : Option File). IsSomeAnd x (λ f. f.bytes ≡ u.bytes)) e stands }

some_is : (x y : ℕ) → Some x ≡ Some y → x ≡ y
some_is x y e = cc

none_is : (x : ℕ) → None ≡ Some x → ⊥
none_is x e = cc

-- if there is no receipt, there is no file
pub none_stands : (s : State) (u : Upload) → IsReceiptAt s u.place None → Stands s u → ⊥
none_stands s u is stands =
    let h = found s u (get s.files u.place) refl stands in
    none_is h.file.receipt (is.there ∙ ap (option_map (λ (f : File). f.receipt)) h.there)

-- the receipt of stored bytes has their length and their digest
pub its_receipt : (s : State) (u : Upload) (row : ReceiptRow) → IsSound s → IsReceiptAt s u.place (Some row) → Stands s u
    → (row.size ≡ length u.bytes) × (row.digest ≡ sha256 u.bytes)
its_receipt s u row sound is stands =
    let h = found s u (get s.files u.place) refl stands in
    let f = sound.files u.place h.file h.there in
    let number : row.number ≡ h.file.receipt = some_is row.number h.file.receipt (is.there ∙ ap (option_map (λ (f : File). f.receipt)) h.there) in
    let same = receipt_once s h.file.receipt (receipt_in row) f.receipt (subst (λ (n : ℕ). HasReceipt s n (receipt_in row)) number (is.receipt row refl)) f.listed in
    (ap (λ (r : Receipt). r.size) same ∙ f.size ∙ ap length h.bytes, ap (λ (r : Receipt). r.digest) same ∙ f.digest ∙ ap sha256 h.bytes)

-- equal digests compare as equal
pub digests_same : (a b : List ℕ) → a ≡ b → pointwise nat_eq a b ≡ true
digests_same a b same = subst (λ (x : List ℕ). pointwise nat_eq a x ≡ true) same (nat_list_eq_equiv.refl a)
