-- Manifests: the receipts of an office, and how they compare with its files.
use Rattle.std.specs.Prelude.{◌≡◌, ℕ, ◌≤◌, List, [], ◌∷◌, ◌++◌, length, codes, decimal, Option, Some, Result, OnOk}
use Rattle.std.specs.FinMap.{get}
use Rattle.hex.specs.Hex.{encode_lower}
use Rattle.csv.specs.Records.{AllText}
use Rattle.sigv4.specs.Dates.{WritesMoment}
use Rattle.sigv4.specs.Hmac.{sha256}
use Rattle.boxes.specs.Rows.{numbered}
use Rattle.boxes.specs.Sound.{IsMoment}
use Rattle.boxes.specs.State.{State, Place, File, Receipt}
use Rattle.wire.specs.Sending.{Sends}
use Rattle.links.specs.Forms.{IsHexDigest}
use Rattle.links.specs.CommandTexts.{IsNumber}
use Rattle.lists.specs.Lists.{line, AreLines, IsTable}
use Rattle.lists.specs.declared.comparing.Entry as comparing
use Rattle.lists.specs.declared.comparing.Comparison.{Comparison}
use Rattle.lists.specs.declared.comparing.Comparison.TheVariants as comparison

abbrev pub manifest_head : List (List ℕ)
manifest_head = codes "receipt" ∷ codes "box" ∷ codes "name" ∷ codes "length" ∷ codes "sha256" ∷ codes "moment" ∷ codes "key" ∷ []

-- the record of a receipt with this number
pub record IsRecordOf (receipt : ℕ × Receipt) (fields : List (List ℕ)) : Type 0 where
  pub moment : List ℕ
  pub is_moment : WritesMoment moment receipt.1.moment
  pub are : fields ≡ decimal receipt.0 ∷ receipt.1.box ∷ receipt.1.name ∷ decimal receipt.1.size ∷ encode_lower receipt.1.digest
      ∷ moment ∷ receipt.1.key ∷ []

abbrev pub IsReceiptLine : ℕ × Receipt → List ℕ → Type 0
IsReceiptLine receipt text = (fields : List (List ℕ)) × IsRecordOf receipt fields × (text ≡ line fields)

-- what a record of a manifest says
pub record Entry : Type 0 where
  pub number : ℕ  -- of the receipt
  pub place : Place
  pub size : ℕ  -- in bytes
  pub digest : List ℕ  -- SHA-256, in 64 digits

abbrev pub entry_of : comparing.Entry → Entry
entry_of e = record { number = e.number; place = record { box = e.in_box.now; name = e.name.now }; size = e.size; digest = e.digest.now }

-- The record says what the entry holds. Its moment and its key may be any texts.
pub record IsEntry (fields : List (List ℕ)) (e : Entry) : Type 0 where
  pub number : List ℕ
  pub size : List ℕ
  pub moment : List ℕ
  pub key : List ℕ
  pub is_number : IsNumber number e.number
  pub numbers : 1 ≤ e.number
  pub ten : length number ≤ 10
  pub is_size : IsNumber size e.size
  pub seven : length size ≤ 7
  pub is_digest : IsHexDigest e.digest
  pub texts : AllText fields
  pub are : fields ≡ number ∷ e.place.box ∷ e.place.name ∷ size ∷ e.digest ∷ moment ∷ key ∷ []

-- the texts of the line that gives this word for an entry
abbrev pub texts_with : comparing.Entry → List ℕ → List (List ℕ)
texts_with e word = e.number_text.now ∷ e.in_box.now ∷ e.name.now ∷ word ∷ []

abbrev pub IsManifestRow : List (List ℕ) → Type 0
IsManifestRow fields = (e : Entry) × IsEntry fields e

-- this file is at the entry's place, and has the entry's receipt
pub record Stands (s : State) (e : Entry) (f : File) : Type 0 where
  pub there : get s.files e.place ≡ Some f
  pub receipt : f.receipt ≡ e.number

-- the file has the length and the digest that the entry says
pub record IsSame (e : Entry) (f : File) : Type 0 where
  pub size : length f.bytes ≡ e.size
  pub digest : encode_lower (sha256 f.bytes) ≡ e.digest

abbrev pub IsComparison : State → Entry → Comparison → Type 0
IsComparison s e comparison.Standing = (f : File) × Stands s e f × IsSame e f
IsComparison s e comparison.Differs = (f : File) × Stands s e f × (IsSame e f → ⊥)
IsComparison s e comparison.Gone = (f : File) → Stands s e f → ⊥

abbrev pub word_of : Comparison → List ℕ
word_of comparison.Standing = codes "standing"
word_of comparison.Differs = codes "differs"
word_of comparison.Gone = codes "gone"

abbrev pub findings_head : List (List ℕ)
findings_head = codes "receipt" ∷ codes "box" ∷ codes "name" ∷ codes "state" ∷ []

-- the line that tells how the record compares with the office
abbrev pub IsComparisonLine : State → List (List ℕ) → List ℕ → Type 0
IsComparisonLine s fields text = (e : Entry) × (is : IsEntry fields e) × (found : Comparison) × IsComparison s e found
    × (text ≡ line (is.number ∷ e.place.box ∷ e.place.name ∷ word_of found ∷ []))

-- ---- what a manifest says of an office

-- these are the first receipts, with their numbers; at a success they are all
pub record AreFirst {T E : Type 0} (s : State) (first : List (ℕ × Receipt)) (result : Result T E) : Type 0 where
  pub rest : List (ℕ × Receipt)
  pub receipts : numbered 1 s.receipts ≡ first ++ rest
  pub all : OnOk result (rest ≡ [])

-- The head and the lines of the first receipts were written, the last of them perhaps in part. At a success
-- the lines of all receipts were written.
pub record WritesManifest {T E : Type 0} (s : State) (old new : Option (List ℕ)) (result : Result T E) : Type 0 where
  pub first : List (ℕ × Receipt)
  pub are_first : AreFirst s first result
  pub text : List ℕ
  pub table : IsTable manifest_head IsReceiptLine first text
  pub sent : Sends text old new result

-- the same for the lines alone
pub record SendsReceipts {T E : Type 0} (s : State) (old new : Option (List ℕ)) (result : Result T E) : Type 0 where
  pub first : List (ℕ × Receipt)
  pub are_first : AreFirst s first result
  pub text : List ℕ
  pub lines : AreLines IsReceiptLine first text
  pub sent : Sends text old new result

-- a moment that has a text
abbrev pub HasMoment : ℕ × Receipt → Type 0
HasMoment receipt = IsMoment receipt.1.moment
