-- What views say about a state.
use Rattle.std.specs.Prelude.{◌≡◌, ◌↔◌, ℕ, ◌+◌, List, length, ⊤, IsTrue, IsSome, Option, Some, option_map}
use Rattle.std.specs.FinMap.{get}
use Rattle.sigv4.specs.Hmac.{sha256}
use Rattle.boxes.specs.declared.rows.ReceiptRow.{ReceiptRow}
use Rattle.boxes.specs.declared.totals.Totals.{Totals}
use Rattle.boxes.specs.declared.view.UploadView.{UploadView}
use Rattle.boxes.specs.declared.view.FetchView.{FetchView}
use Rattle.boxes.specs.declared.view.DeskView.{DeskView}
use Rattle.boxes.specs.declared.uploads.NewBytes.{NewBytes}
use Rattle.boxes.specs.State.{Place, State}
use Rattle.boxes.specs.Totals.{used, count}
use Rattle.boxes.specs.Clerks.{clerks}
use Rattle.boxes.specs.Limits.{IsLimitedTo}
use Rattle.boxes.specs.Rows.{IsOfficeOf, IsFileAt, key_of, receipt_in, settings_of}
use Rattle.boxes.specs.Rules.{Upload, Stands}
use Rattle.boxes.specs.Steps.{Command, AddKey, RevokeKey, AddBox, CloseBox, DropFile, LimitKey, SetAllowance, HasReceipt}

-- the totals computed from the files of this box
pub record AreTotals (s : State) (box : List ℕ) (t : Totals) : Type 0 where
  pub used : t.used ≡ used s box
  pub count : t.count ≡ count s box

-- the receipt of the file stored at the place
pub record IsReceiptAt (s : State) (place : Place) (found : Option ReceiptRow) : Type 0 where
  pub there : option_map (λ r. r.number) found ≡ option_map (λ f. f.receipt) (get s.files place)
  pub receipt : (r : ReceiptRow) → found ≡ Some r → HasReceipt s r.number (receipt_in r)

-- for an upload to the place
pub record IsUploadViewOf (s : State) (place : Place) (v : UploadView) : Type 0 where
  pub office : IsOfficeOf s v.office
  pub in_box : option_map settings_of v.in_box ≡ get s.boxes place.box
  pub standing : IsReceiptAt s place v.standing
  pub totals : AreTotals s place.box v.totals
  pub next_number : v.next_number ≡ length s.receipts + 1

-- for a fetch from the place
pub record IsFetchViewOf (s : State) (place : Place) (v : FetchView) : Type 0 where
  pub in_box : option_map settings_of v.in_box ≡ get s.boxes place.box
  pub file : IsFileAt s place v.file

-- for a desk command: what its rule reads
abbrev pub IsDeskViewOf : State → Command → DeskView → Type 0
IsDeskViewOf s (AddKey id role secret) v = option_map key_of v.key ≡ get s.keys id
IsDeskViewOf s (RevokeKey id) v = (option_map key_of v.key ≡ get s.keys id) × (v.clerks ≡ clerks s)
IsDeskViewOf s (AddBox name settings) v = IsTrue v.has_box ↔ IsSome (get s.boxes name)
IsDeskViewOf s (CloseBox name moment) v = IsTrue v.has_box ↔ IsSome (get s.boxes name)
IsDeskViewOf s (DropFile place) v = IsTrue v.has_file ↔ IsSome (get s.files place)
IsDeskViewOf s (LimitKey id box) v =
    (option_map key_of v.key ≡ get s.keys id) × (IsTrue v.has_box ↔ IsSome (get s.boxes box)) × (IsTrue v.has_limit ↔ IsLimitedTo s id box)
IsDeskViewOf s (SetAllowance seconds) v = ⊤

-- what is known of an upload's bytes: their number, their digest, and whether they are already stored
pub record AreBytesOf (s : State) (u : Upload) (n : NewBytes) : Type 0 where
  pub length_is : n.length ≡ length u.bytes
  pub digest : n.digest ≡ sha256 u.bytes
  pub stand : IsTrue n.stand ↔ Stands s u
