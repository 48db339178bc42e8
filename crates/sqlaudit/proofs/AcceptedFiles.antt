-- The bytes of each file of an outline.
use Rattle.std.proofs.Common.{◌≡◌, ◌∙◌, ℕ, ◌+◌, ◌-◌, List, [], length, Option, Some, None, refl, sym, ap, subst, arith}
use Rattle.std.specs.Prelude.{Contains, slice_get, option_map, unwrap_or}
use Rattle.std.specs.FinMap.{get}
use Rattle.sqlite_value.specs.Order.{Row}
use Rattle.sigtext.specs.Bytes.{AreBytes}
use Rattle.sigv4.specs.Hmac.{sha256}
use Rattle.boxes.specs.State.{Place, Receipt}
use Rattle.boxes.proofs.Lookups.{some_none}
use Rattle.sqlaudit.specs.declared.lines.FileLine.{FileLine}
use Rattle.sqlaudit.specs.declared.rules.Lines.{Lines}
use Rattle.sqltables.specs.Pieces.{AreBytesOf, HasPiece}
use Rattle.sqlaudit.specs.Outlines.{Outline, AreEntries, IsFileEntry, AreLinesOf, IsSoundOutline, size_in}
use Rattle.sqlaudit.specs.Opened.{HasBytes}
use Rattle.sqlaudit.proofs.ReceiptEntries.{one_pos}

-- the pieces at the place are these bytes, and the receipt of this number matches them
pub record IsStored (rows : List Row) (o : Outline) (place : Place) (number : ℕ) (bytes : List ℕ) : Type 0 where
  pub at : ℕ
  pub counted : number ≡ at + 1
  pub given : Receipt
  pub listed : slice_get o.receipts at ≡ Some given
  pub box : given.box ≡ place.box
  pub name : given.name ≡ place.name
  pub octets : AreBytes bytes
  pub size : given.size ≡ length bytes
  pub digest : given.digest ≡ sha256 bytes
  pub pieces : AreBytesOf rows place (length bytes) bytes
  pub bare : length bytes ≡ 0 → (piece : List ℕ) → HasPiece rows place 0 piece → ⊥

pub told_size : (rows : List Row) (o : Outline) (place : Place) (number : ℕ) (bytes : List ℕ) → IsStored rows o place number bytes → size_in (slice_get o.receipts) number ≡ length bytes
told_size rows o place number bytes it =
    let spot : number - 1 ≡ it.at = omega (arith, it.counted) in
    ap (λ n. unwrap_or (option_map (λ (r : Receipt). r.size) (slice_get o.receipts n)) 0) spot
    ∙ ap (λ r. unwrap_or (option_map (λ (r : Receipt). r.size) r) 0) it.listed
    ∙ it.size

module _ (rows : List Row) (lines : Lines) (o : Outline) (are : AreLinesOf lines o) (sound : IsSoundOutline o)
    (files : List FileLine) (files_of : AreEntries IsFileEntry (get o.files) files) (has : (file : FileLine) → Contains files file → HasBytes rows lines.receipts.now file) where
  stored : (place : Place) (number : ℕ) → get o.files place ≡ Some number → (bytes : List ℕ) × IsStored rows o place number bytes
  stored place number there =
      let line = files_of.all place number there in
      let it = has line.0 line.1 in
      let told = are.receipts.each it.given it.is.there in
      let rule = sound.files place number there in
      let same_number : told.0 + 1 ≡ number = one_pos (told.0 + 1) number (sym told.2.number_is ∙ it.is.number ∙ line.2.receipt_is) in
      let spot : told.0 ≡ rule.at = omega (arith, same_number, rule.counted) in
      let both : Some told.1 ≡ Some rule.given = sym told.3 ∙ ap (slice_get o.receipts) spot ∙ rule.listed in
      let same : told.1 ≡ rule.given = cc in
      let size : told.1.size ≡ length it.bytes = one_pos told.1.size (length it.bytes) (sym told.2.length_is ∙ it.size) in (
        it.bytes,
        record {
          at = rule.at;
          counted = rule.counted;
          given = rule.given;
          listed = rule.listed;
          box = rule.box;
          name = rule.name;
          octets = it.octets;
          size = ap (λ (r : Receipt). r.size) (sym same) ∙ size;
          digest = ap (λ (r : Receipt). r.digest) (sym same) ∙ sym told.2.digest_is ∙ sym it.digest;
          pieces = subst (λ (p : Place). AreBytesOf rows p (length it.bytes) it.bytes) (λ i. record { box = line.2.box_is i; name = line.2.name_is i }) it.are;
          bare = subst (λ (p : Place). length it.bytes ≡ 0 → (piece : List ℕ) → HasPiece rows p 0 piece → ⊥) (λ i. record { box = line.2.box_is i; name = line.2.name_is i }) it.bare;
        },
      )

  chosen : (place : Place) (found : Option ℕ) → get o.files place ≡ found → (bytes : List ℕ) × ((number : ℕ) → found ≡ Some number → IsStored rows o place number bytes)
  chosen place None none = ([], λ number is. absurd (some_none number (sym is)))
  chosen place (Some n) there =
      let it = stored place n there in
      (it.0, λ number is. let same : n ≡ number = cc in subst (λ m. IsStored rows o place m it.0) same it.1)

  -- the bytes of the file at this place; empty if there is no file
  pub bytes_at : Place → List ℕ
  bytes_at place = (chosen place (get o.files place) refl).0

  pub bytes_stored : (place : Place) (number : ℕ) → get o.files place ≡ Some number → IsStored rows o place number (bytes_at place)
  unfolding bytes_at
  bytes_stored place number there = (chosen place (get o.files place) refl).1 number there
