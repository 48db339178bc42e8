-- What is found about the files and pieces of an office that are read in portions.
use Rattle.std.specs.Prelude.{◌⊎◌, ℕ, List, slice_get, Contains}
use Rattle.std.specs.FinMap.{FinMap}
use Rattle.sqlite_value.specs.Order.{Row}
use Rattle.sqlite_rules.specs.Lists.{Has}
use Rattle.sqlite.specs.Effect.{Database}
use Rattle.sqlite.specs.State.{HasCleanDisk}
use Rattle.boxes.specs.State.{place_cmp, Receipt}
use Rattle.sqltables.specs.Schema.{Version, IsVersion}
use Rattle.sqltables.specs.Means.{IsRunning}
use Rattle.sqltables.specs.Inside.{View, seen, HasSchema, HasWhole}
use Rattle.sqlaudit.specs.Lines.{AreLines, IsFileLine, IsLater, IsPieceLine}
use Rattle.sqlaudit.specs.Opened.{HasBytes, LacksBytes}
use Rattle.sqlaudit.specs.Outlines.{IsPieceIn}
use Rattle.sqlaudit.specs.Sorting.{AreFiled, AreUnfiled}
use Rattle.sqlaudit.specs.declared.file_rules.Filed.{Filed}
use Rattle.sqlaudit.specs.declared.lines.FileLine.{FileLine}
use Rattle.sqlaudit.specs.declared.lines.PieceLine.{PieceLine}
use Rattle.sqlaudit.specs.declared.lines.ReceiptLine.{ReceiptLine}

-- P holds if the tables are an office's, each row obeys them, and the connection is open
abbrev pub OfRunningOffice : {S : Type 0} → (S → View) → S → S → (Version → Type 0) → Type 0
OfRunningOffice g old new P = (v : Version) → IsVersion v → HasSchema v.schema (seen g old) → HasWhole (seen g old)
    → IsRunning (seen g old) → HasCleanDisk (seen g new) → P v

-- each line is the line of some row
abbrev pub AreOf : {L : Type 0} → (Row → L → Type 0) → List Row → List L → Type 0
AreOf {L = L} IsLine rows lines = (line : L) → Has lines line → (row : Row) × Has rows row × IsLine row line

-- each row of the files is a file whose receipt is among these, and has its bytes
pub record AreAllFiles (receipts : List Receipt) (given : List ReceiptLine) (db : Database) (filed : Filed) : Type 0 where
  pub lines : List FileLine
  pub are : AreLines IsFileLine (db.trees 6) lines
  pub filed_are : AreFiled receipts lines filed.files filed.sums
  pub bytes : (file : FileLine) → Contains lines file → HasBytes (db.trees 9) given file

-- some rows of the files are not all files with their receipts, or one lacks its bytes
pub record LackFiles (receipts : List Receipt) (given : List ReceiptLine) (db : Database) : Type 0 where
  pub lines : List FileLine
  pub of : AreOf IsFileLine (db.trees 6) lines
  pub lack : AreUnfiled receipts lines ⊎ ((file : FileLine) × Contains lines file × LacksBytes (db.trees 9) given file)

-- each row of the pieces that is not the first of its file is a piece of one of these files
abbrev pub AreLaterPieces : List Receipt → FinMap place_cmp ℕ → Database → Type 0
AreLaterPieces receipts files db = (row : Row) → Has (db.trees 9) row → IsLater row → (line : PieceLine) × IsPieceLine row line × IsPieceIn (slice_get receipts) files line

-- some rows of the pieces are not all pieces of these files
pub record LackPieces (receipts : List Receipt) (files : FinMap place_cmp ℕ) (db : Database) : Type 0 where
  pub lines : List PieceLine
  pub of : AreOf IsPieceLine (db.trees 9) lines
  pub lack : ((line : PieceLine) → Contains lines line → IsPieceIn (slice_get receipts) files line) → ⊥
