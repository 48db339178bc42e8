-- What is known about a file that is set or deleted, before anything is written. This file involves no SQL.
use Rattle.std.proofs.Common.{◌≡◌, ℕ, ◌+◌, ◌<◌, ◌^◌, List, length, is_some, Option, None, Some, Result, Ok, Err, OnOk, arith, refl, sym, ap, subst, ◌∙◌}
use Rattle.std.specs.Prelude.{option_map}
use Rattle.std.specs.FinMap.{get, insert, remove}
use Rattle.sigtext.specs.declared.refusal.Refusal.TheVariants.{NoSuchBox}
use Rattle.boxes.specs.declared.change.NewFile.{NewFile}
use Rattle.boxes.specs.declared.totals.Totals.{Totals}
use Rattle.boxes.specs.State.{Place, File, Settings, State}
use Rattle.boxes.specs.Totals.{used, count}
use Rattle.boxes.specs.Rules.{Upload}
use Rattle.boxes.specs.Sound.{IsSound}
use Rattle.boxes.specs.Steps.{receipt_of, after_upload, DropFile}
use Rattle.boxes.specs.Changes.{IsTaken, IsFileSet, IsObeyed, upload_in}
use Rattle.boxes.specs.Views.{AreTotals}
use Rattle.boxes.proofs.CommandSteps.{file_dropped_is}
use Rattle.boxes.proofs.MapLemmas.{some_of}
use Rattle.boxes.proofs.FileBoxes.{there_is, file_in_box}
use Rattle.sqltables.specs.Tables.{tables_of}
use Rattle.sqltables.specs.Changes.{with_upload, with_drop, with_totals}
use Rattle.sqltables.specs.Questions.{AreTotalsOf}
use Rattle.sqlchanges.proofs.Uploads.{upload_tables}
use Rattle.sqlchanges.proofs.Commands.{row_of, drop_tables}

-- a claim that was shown under a premise which the claim itself also has
pub given : {X E : Type 0} (P Q : Type 0) (r : Result X E) → (P → OnOk r (P → Q)) → OnOk r (P → Q)
given P Q (Ok x) h = λ p. h p p
given P Q (Err e) h = tt

pub same_some : {X Y Z : Type 0} (f : X → Y) (g : X → Z) (o : Option X) → is_some (option_map f o) ≡ is_some (option_map g o)
same_some f g None = refl
same_some f g (Some x) = refl

-- the totals shown for an existing box are its totals
pub totals_are : (s : State) (name : List ℕ) (b : Settings) (held : Totals) → get s.boxes name ≡ Some b → AreTotalsOf ((tables_of s).box name) held → AreTotals s name held
totals_are s name b held there shown =
    let are : AreTotalsOf (Some (row_of s name b)) held = subst (λ o. AreTotalsOf (option_map (λ b. row_of s name b) o) held) there shown in
    record { used = are.0; count = are.1 }

pub row_is : (s after : State) (name : List ℕ) (b : Settings) (held : Totals) → AreTotals after name held → row_of after name b ≡ with_totals held.used held.count (row_of s name b)
row_is s after name b held are = λ i. record { settings = b; used = sym are.used i; count = sym are.count i }

-- ---- a file that is set, at a place given by these texts

module _ (s : State) (f : NewFile) (bytes : List ℕ) (after : State) (place : Place) (same : place ≡ (upload_in f bytes).place) (sound : IsSound s) (set : IsFileSet s f bytes after) where
  abbrev pub upload : Upload
  upload = record { place = place; bytes = bytes; now = f.moment; key = f.key.now }

  same_upload : upload ≡ upload_in f bytes
  same_upload = λ i. record { place = same i; bytes = bytes; now = f.moment; key = f.key.now }

  taken : IsTaken s upload
  taken = subst (IsTaken s) (sym same_upload) set.taken

  pub in_box : (b : Settings) × (get s.boxes place.box ≡ Some b)
  in_box = there_is (get s.boxes place.box) (taken.rules NoSuchBox).0

  abbrev new_file : File
  new_file = record { bytes = bytes; receipt = length s.receipts + 1 }

  pub fits_used : used s place.box + length bytes < 2 ^ 64
  fits_used =
      let most = (sound.boxes place.box in_box.0 in_box.1).1.quota in
      let quota = (sound.quotas place.box in_box.0 in_box.1).0 in
      let short = taken.brought.short in omega (arith, most, quota, short)

  pub fits_count : count s place.box + 1 < 2 ^ 64
  fits_count =
      let most = (sound.boxes place.box in_box.0 in_box.1).1.max_files in
      let files = (sound.quotas place.box in_box.0 in_box.1).1 in omega (arith, most, files)

  pub set_tables : (held : Totals) → AreTotals (record s { files = insert s.files place new_file }) place.box held
      → with_upload (tables_of s) place bytes (length s.receipts) (receipt_of upload) (with_totals held.used held.count (row_of s place.box in_box.0)) ≡ tables_of after
  set_tables held are =
      let now : AreTotals (after_upload s upload) place.box held = record { used = are.used; count = are.count } in
      ap (with_upload (tables_of s) place bytes (length s.receipts) (receipt_of upload)) (sym (row_is s (after_upload s upload) place.box in_box.0 held now))
      ∙ sym (upload_tables s upload in_box.0 in_box.1) ∙ ap tables_of (ap (after_upload s) same_upload ∙ sym set.sets)

-- ---- a file that is deleted

module _ (s : State) (place : Place) (after : State) (size : ℕ) (sound : IsSound s) (obeyed : IsObeyed s (DropFile place) after)
    (shown : option_map (λ (f : File). length f.bytes) (get s.files place) ≡ Some size) where
  pub dropped : (f : File) × (get s.files place ≡ Some f) × (length f.bytes ≡ size)
  dropped = some_of (λ (f : File). length f.bytes) (get s.files place) size shown

  pub of_box : (b : Settings) × (get s.boxes place.box ≡ Some b)
  of_box = there_is (get s.boxes place.box) (file_in_box s place dropped.0 sound dropped.1)

  abbrev left : State
  left = record s { files = remove s.files place }

  pub dropped_tables : (held : Totals) → AreTotals left place.box held
      → with_drop (tables_of s) place (with_totals held.used held.count (row_of s place.box of_box.0)) ≡ tables_of after
  dropped_tables held are =
      ap (with_drop (tables_of s) place) (sym (row_is s left place.box of_box.0 held are))
      ∙ sym (drop_tables s place of_box.0 of_box.1 dropped.0 dropped.1) ∙ ap tables_of (sym (file_dropped_is s place after obeyed.step))
