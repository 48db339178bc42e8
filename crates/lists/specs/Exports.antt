-- What an export writes of an office.
use Rattle.std.specs.Prelude.{◌≡◌, ℕ, List, [], ◌∷◌, ◌++◌, length, codes, decimal, Option, Some, None, option_map, IsSome, Result, ⊤}
use Rattle.std.specs.Borrow.{Bor}
use Rattle.std.specs.List.{AllZip}
use Rattle.std.specs.FinMap.{FinMap, get, retain_keys}
use Rattle.hex.specs.Hex.{encode_lower}
use Rattle.sigtext.specs.Bytes.{same_bytes}
use Rattle.sigv4.specs.Dates.{WritesMoment}
use Rattle.sigv4.specs.Hmac.{sha256}
use Rattle.boxes.specs.State.{File, Place, place_cmp, Receipt, State}
use Rattle.boxes.specs.Steps.{HasReceipt}
use Rattle.wire.specs.Sending.{Sends}
use Rattle.lists.specs.Lists.{line, AreLines, IsTable}
use Rattle.lists.specs.Written.{AreFirst}
use Rattle.lists.specs.Folders.{Adds, PutFile}
use Rattle.lists.specs.Names.{IsExportName, IsFolderName}

-- ---- which files

-- the files of this box, or all files if no box is named
abbrev pub files_in : Option (List ℕ) → State → FinMap place_cmp File
files_in None s = s.files
files_in (Some box) s = retain_keys s.files (λ place. same_bytes place.box box)

-- one of these files is at the place
abbrev pub IsAmong : FinMap place_cmp File → Place → Type 0
IsAmong files place = IsSome (get files place)

-- the place is in this box; any place if no box is named
abbrev pub IsIn : Option (List ℕ) → Place → Type 0
IsIn None place = ⊤
IsIn (Some box) place = place.box ≡ box

-- the place before all files of this box, or before all files if no box is named
abbrev pub start_in : Option (List ℕ) → Place
start_in None = record { box = []; name = [] }
start_in (Some box) = record { box = box; name = [] }

abbrev pub named_box : Option (Bor (List ℕ)) → Option (List ℕ)
named_box box = option_map (λ b. b.now) box

-- ---- one file

-- the export path of the file at this place with this receipt number: the box's folder, `/`, and the exported name
pub record IsPath (place : Place) (number : ℕ) (path : List ℕ) : Type 0 where
  pub folder : List ℕ
  pub is_folder : IsFolderName place.box folder
  pub name : List ℕ
  pub is_name : IsExportName number place.name name
  pub is : path ≡ folder ++ 47 ∷ name

-- the file was put under its path, with its own bytes
pub record IsPut (file : Place × File) (put : PutFile) : Type 0 where
  pub path : IsPath file.0 file.1.receipt put.path
  pub bytes : put.bytes ≡ file.1.bytes

abbrev pub export_head : List (List ℕ)
export_head = codes "path" ∷ codes "box" ∷ codes "name" ∷ codes "receipt" ∷ codes "length" ∷ codes "sha256" ∷ codes "moment"
    ∷ codes "key" ∷ []

-- the record of a file that is exported to this path
pub record IsRecord (path : List ℕ) (place : Place) (f : File) (receipt : Receipt) (fields : List (List ℕ)) : Type 0 where
  pub moment : List ℕ
  pub is_moment : WritesMoment moment receipt.moment
  pub are : fields ≡ path ∷ place.box ∷ place.name ∷ decimal f.receipt ∷ decimal (length f.bytes) ∷ encode_lower (sha256 f.bytes)
      ∷ moment ∷ receipt.key ∷ []

-- the row of a file in `files.csv`
pub record IsRow (s : State) (file : Place × File) (text : List ℕ) : Type 0 where
  pub path : List ℕ
  pub is_path : IsPath file.0 file.1.receipt path
  pub receipt : Receipt
  pub listed : HasReceipt s file.1.receipt receipt
  pub fields : List (List ℕ)
  pub are : IsRecord path file.0 file.1 receipt fields
  pub is : text ≡ line fields

-- the line of a file in `SHA256SUMS`: the digest of its bytes, two spaces, its path, and a line feed
pub record IsSum (file : Place × File) (text : List ℕ) : Type 0 where
  pub path : List ℕ
  pub is_path : IsPath file.0 file.1.receipt path
  pub is : text ≡ encode_lower (sha256 file.1.bytes) ++ (32 ∷ 32 ∷ path) ++ 10 ∷ []

-- ---- an export

-- the folder's files and the text written to each list, if known
pub record Shown : Type 0 where
  pub folder : Option (List PutFile)
  pub files : Option (List ℕ)
  pub sums : Option (List ℕ)

abbrev pub shown : Option (List PutFile) → Option (List ℕ) → Option (List ℕ) → Shown
shown folder files sums = record { folder = folder; files = files; sums = sums }

-- each of these files was put, once and in order; a beginning of their rows and of their sums was written, on success all of
-- them
pub record SendsFiles {T E : Type 0} (s : State) (first : List (Place × File)) (old new : Shown) (result : Result T E) : Type 0 where
  pub puts : List PutFile
  pub are_puts : AllZip IsPut first puts
  pub put : Adds old.folder new.folder puts
  pub rows : List ℕ
  pub are_rows : AreLines (IsRow s) first rows
  pub files : Sends rows old.files new.files result
  pub sum_lines : List ℕ
  pub are_sums : AreLines IsSum first sum_lines
  pub sums : Sends sum_lines old.sums new.sums result

-- the same for the first of these files, on success for all of them
pub record SendsFirst {T E : Type 0} (s : State) (all : List (Place × File)) (old new : Shown) (result : Result T E) : Type 0 where
  pub first : List (Place × File)
  pub are_first : AreFirst all first result
  pub sends : SendsFiles s first old new result

-- The first of these files were put, each once under its path with its own bytes, in order. On success all were put. A
-- beginning of the header line and of just their rows and sums was written, on success all of it. So no row and no sum is about
-- a file that was not put.
pub record Exports {T E : Type 0} (s : State) (all : List (Place × File)) (old new : Shown) (result : Result T E) : Type 0 where
  pub first : List (Place × File)
  pub are_first : AreFirst all first result
  pub puts : List PutFile
  pub are_puts : AllZip IsPut first puts
  pub put : Adds old.folder new.folder puts
  pub table : List ℕ
  pub is_table : IsTable export_head (IsRow s) first table
  pub files : Sends table old.files new.files result
  pub sum_lines : List ℕ
  pub are_sums : AreLines IsSum first sum_lines
  pub sums : Sends sum_lines old.sums new.sums result
