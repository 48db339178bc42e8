-- What a command that only looks at an office does, and the lists that it writes.
use Rattle.std.specs.Prelude.{◌≡◌, ℕ, List, Option, Some, Result, Ok, codes}
use Rattle.std.specs.FinMap.{entries}
use Rattle.std.specs.Io.KnownBytes.{Appends}
use Rattle.boxes.specs.Rows.{numbered}
use Rattle.boxes.specs.State.{State}
use Rattle.lists.specs.Lists.{AnswersList, IsTable}
use Rattle.lists.specs.Manifests.{IsComparisonLine, IsManifestRow, IsReceiptLine, findings_head, manifest_head}
use Rattle.lists.specs.Boxes.{IsBoxLine, boxes_head}
use Rattle.lists.specs.Files.{IsFileLine, files_head}
use Rattle.lists.specs.Keys.{IsKeyLine, keys_head}
use Rattle.lists.specs.Written.{WritesList}
use Rattle.commands.specs.Asking.{Asked, nothing}
use Rattle.commands.specs.declared.listing.Stock.{Stock}
use Rattle.commands.specs.declared.listing.Stock.TheVariants as stock

-- nothing was asked that changes the office, and it is the same
pub record Looks (s after : State) (asked : Asked) : Type 0 where
  pub same : after ≡ s
  pub none : asked ≡ nothing

-- the text is the manifest of the state: the header line, and a line for each receipt
abbrev pub IsManifest : State → List ℕ → Type 0
IsManifest s = IsTable manifest_head IsReceiptLine (numbered 1 s.receipts)

-- the text is the list of the state's keys, boxes or files: the header line, and a line for each
abbrev pub IsListOf : Stock → State → List ℕ → Type 0
IsListOf stock.Keys s = IsTable keys_head (IsKeyLine s) (entries s.keys)
IsListOf stock.Boxes s = IsTable boxes_head (IsBoxLine s) (entries s.boxes)
IsListOf stock.Files s = IsTable files_head (IsFileLine s) (entries s.files)

-- the same of what is written, of which a fault leaves a beginning
abbrev pub WritesStock : {T E : Type 0} → Stock → State → Option (List ℕ) → Option (List ℕ) → Result T E → Type 0
WritesStock stock.Keys s = WritesList keys_head (IsKeyLine s) (entries s.keys)
WritesStock stock.Boxes s = WritesList boxes_head (IsBoxLine s) (entries s.boxes)
WritesStock stock.Files s = WritesList files_head (IsFileLine s) (entries s.files)

-- the word for the list
abbrev pub stock_name : Stock → List ℕ
stock_name stock.Keys = codes "keys"
stock_name stock.Boxes = codes "boxes"
stock_name stock.Files = codes "files"

-- The work looked, and if it succeeded, such a text of the state was appended to its output, which is handed back. Done: it
-- succeeded.
pub record Writes {W : Type 0} (contents : W → Option (List ℕ)) (IsText : State → List ℕ → Type 0) (Done : Type 0) (old : W) (new : Option W)
    (s after : State) (asked : Asked) : Type 0 where
  pub looks : Looks s after asked
  pub wrote : Done → (out : W) × (new ≡ Some out) × (text : List ℕ) × IsText s text × Appends (contents old) (contents out) text

-- the work looked, and if it succeeded, the manifest that was read is compared with the state in its output
pub record Compares {W : Type 0} (contents : W → Option (List ℕ)) (read : Option (List ℕ)) (Done : Type 0) (old : W) (new : Option W)
    (s after : State) (asked : Asked) : Type 0 where
  pub looks : Looks s after asked
  pub wrote : Done → (out : W) × (new ≡ Some out)
      × AnswersList {T = Unit {0}} manifest_head findings_head IsManifestRow (λ (w : State). w ≡ s) IsComparisonLine read (contents old) (contents out) (Ok tt)
