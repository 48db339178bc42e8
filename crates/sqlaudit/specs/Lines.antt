-- The rows of each table, read as values.
use Rattle.std.specs.Prelude.{◌≡◌, ◌≢◌, ℕ, ℤ, pos, List, [], length, map}
use Rattle.std.specs.List.{AllZip}
use Rattle.std.specs.List.Sorted.{IsPermutation}
use Rattle.std.specs.Ordering.{int_cmp}
use Rattle.std.specs.declared.cmp.Ordering.TheVariants.{Less}
use Rattle.sqlite_value.specs.declared.value.Value.TheVariants.{Int, Text, Blob}
use Rattle.sqlite_value.specs.Order.{Row, column}
use Rattle.sqlite_trees.specs.Tree.{IsAscending}
use Rattle.sqlite_rules.specs.Lists.{Has}
use Rattle.sqlite.specs.State.{State, Shown}
pub use Rattle.sqltables.specs.Tables.{HaveRowids}
use Rattle.sqlaudit.specs.declared.lines.OfficeLine.{OfficeLine}
use Rattle.sqlaudit.specs.declared.lines.KeyLine.{KeyLine}
use Rattle.sqlaudit.specs.declared.lines.BoxLine.{BoxLine}
use Rattle.sqlaudit.specs.declared.lines.ReceiptLine.{ReceiptLine}
use Rattle.sqlaudit.specs.declared.lines.FileLine.{FileLine}
use Rattle.sqlaudit.specs.declared.lines.PieceLine.{PieceLine}
use Rattle.sqlaudit.specs.declared.lines.RulesLine.{RulesLine}
use Rattle.sqlaudit.specs.declared.lines.LimitLine.{LimitLine}

pub record IsOfficeLine (row : Row) (line : OfficeLine) : Type 0 where
  pub id_is : column row 0 ≡ Int line.id
  pub version_is : column row 2 ≡ Int line.version
  pub east_is : column row 3 ≡ Int line.east

pub record IsKeyLine (row : Row) (line : KeyLine) : Type 0 where
  pub id_is : column row 1 ≡ Text line.id.items
  pub role_is : column row 2 ≡ Int line.role
  pub secret_is : column row 3 ≡ Blob line.secret.items
  pub revoked_is : column row 4 ≡ Int line.revoked

pub record IsBoxLine (row : Row) (line : BoxLine) : Type 0 where
  pub name_is : column row 1 ≡ Text line.name.items
  pub opens_is : column row 2 ≡ Int line.opens
  pub closes_is : column row 3 ≡ Int line.closes
  pub days_is : column row 4 ≡ Text line.days.items
  pub from_is : column row 5 ≡ Int line.from_minute
  pub to_is : column row 6 ≡ Int line.to_minute
  pub quota_is : column row 7 ≡ Int line.quota
  pub max_is : column row 8 ≡ Int line.max_files
  pub mode_is : column row 9 ≡ Int line.mode
  pub kind_is : column row 10 ≡ Int line.rule_kind
  pub text_is : column row 11 ≡ Text line.rule_text.items
  pub used_is : column row 12 ≡ Int line.used
  pub count_is : column row 13 ≡ Int line.count

pub record IsReceiptLine (row : Row) (line : ReceiptLine) : Type 0 where
  pub number_is : column row 0 ≡ Int line.number
  pub box_is : column row 2 ≡ Text line.in_box.items
  pub name_is : column row 3 ≡ Text line.name.items
  pub length_is : column row 4 ≡ Int line.length
  pub digest_is : column row 5 ≡ Blob line.digest.items
  pub moment_is : column row 6 ≡ Int line.moment
  pub key_is : column row 7 ≡ Text line.key.items

pub record IsFileLine (row : Row) (line : FileLine) : Type 0 where
  pub box_is : column row 1 ≡ Text line.in_box.items
  pub name_is : column row 2 ≡ Text line.name.items
  pub receipt_is : column row 3 ≡ Int line.receipt

-- a piece with the length of its bytes
pub record IsPieceLine (row : Row) (line : PieceLine) : Type 0 where
  pub box_is : column row 1 ≡ Text line.in_box.items
  pub name_is : column row 2 ≡ Text line.name.items
  pub part_is : column row 3 ≡ Int line.part
  pub bytes : List ℕ
  pub bytes_is : column row 4 ≡ Blob bytes
  pub length_is : pos (length bytes) ≡ line.length

-- a row that has the length of a piece instead of its bytes
pub record ShowsPiece (row : Row) (line : PieceLine) : Type 0 where
  pub box_is : column row 1 ≡ Text line.in_box.items
  pub name_is : column row 2 ≡ Text line.name.items
  pub part_is : column row 3 ≡ Int line.part
  pub length_is : column row 4 ≡ Int line.length

pub record IsRulesLine (row : Row) (line : RulesLine) : Type 0 where
  pub id_is : column row 0 ≡ Int line.id
  pub allowance_is : column row 2 ≡ Int line.allowance

pub record IsLimitLine (row : Row) (line : LimitLine) : Type 0 where
  pub key_is : column row 1 ≡ Text line.key.items
  pub box_is : column row 2 ≡ Text line.in_box.items

-- Each row has a line, and each line is the line of a row.
pub record AreLines {L : Type 0} (IsLine : Row → L → Type 0) (rows : List Row) (lines : List L) : Type 0 where
  pub each : (row : Row) → Has rows row → (line : L) × Has lines line × IsLine row line
  pub all : (line : L) → Has lines line → (row : Row) × Has rows row × IsLine row line

-- Each row that passes has a line, and each line is the line of a row.
pub record AreLinesWhere {L : Type 0} (Passes : Row → Type 0) (IsLine : Row → L → Type 0) (rows : List Row) (lines : List L) : Type 0 where
  pub each : (row : Row) → Has rows row → Passes row → (line : L) × Has lines line × IsLine row line
  pub all : (line : L) → Has lines line → (row : Row) × Has rows row × IsLine row line

-- a row of the table of pieces that is not the first piece of its file
abbrev pub IsLater : Row → Type 0
IsLater row = (part : ℤ) × (column row 3 ≡ Int part) × (part ≢ pos 0)

-- the values in the first column are these numbers, in ascending order after some reordering of the rows
pub record AreNumbersOf (rows : List Row) (numbers : List ℤ) : Type 0 where
  pub found : List Row
  pub same : IsPermutation rows found
  pub are : map (λ (r : Row). column r 0) found ≡ map Int numbers
  pub rising : IsAscending (λ a b. int_cmp a b ≡ Less) numbers

-- the lines are the rows that a query shows, in order, and no two of these rows have the same first column
pub record AreRead {L : Type 0} (reads : Row → L → Type 0) (sql : List ℕ) (old new : State) (lines : List L) : Type 0 where
  pub rows : List Row
  pub shown : Shown sql [] old new rows
  pub each : AllZip reads rows lines
  pub numbers : List ℤ
  pub numbered : AreNumbersOf rows numbers
