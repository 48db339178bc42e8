-- The list of files.
use Rattle.std.specs.Prelude.{◌≡◌, ℕ, List, [], ◌∷◌, length, codes, decimal}
use Rattle.hex.specs.Hex.{encode_lower}
use Rattle.sigv4.specs.Dates.{WritesMoment}
use Rattle.sigv4.specs.Hmac.{sha256}
use Rattle.boxes.specs.State.{File, Place, Receipt, State}
use Rattle.boxes.specs.Steps.{HasReceipt}
use Rattle.lists.specs.Lists.{line}

abbrev pub files_head : List (List ℕ)
files_head = codes "box" ∷ codes "name" ∷ codes "length" ∷ codes "sha256" ∷ codes "receipt" ∷ codes "moment" ∷ codes "key" ∷ []

-- the record of the file at a place: length and digest, and its receipt's moment and key
pub record IsFileRecord (s : State) (place : Place) (f : File) (fields : List (List ℕ)) : Type 0 where
  pub receipt : Receipt
  pub listed : HasReceipt s f.receipt receipt
  pub moment : List ℕ
  pub is_moment : WritesMoment moment receipt.moment
  pub are : fields ≡ place.box ∷ place.name ∷ decimal (length f.bytes) ∷ encode_lower (sha256 f.bytes) ∷ decimal f.receipt
      ∷ moment ∷ receipt.key ∷ []

-- the line of a file, given with its place
abbrev pub IsFileLine : State → Place × File → List ℕ → Type 0
IsFileLine s file text = (fields : List (List ℕ)) × IsFileRecord s file.0 file.1 fields × (text ≡ line fields)

-- the record of a place and a numbered receipt
pub record IsPlacedRecord (place : Place) (receipt : ℕ × Receipt) (fields : List (List ℕ)) : Type 0 where
  pub moment : List ℕ
  pub is_moment : WritesMoment moment receipt.1.moment
  pub are : fields ≡ place.box ∷ place.name ∷ decimal receipt.1.size ∷ encode_lower receipt.1.digest ∷ decimal receipt.0
      ∷ moment ∷ receipt.1.key ∷ []

abbrev pub IsPlacedLine : Place → ℕ × Receipt → List ℕ → Type 0
IsPlacedLine place receipt text = (fields : List (List ℕ)) × IsPlacedRecord place receipt fields × (text ≡ line fields)
