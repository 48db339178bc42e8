-- What is found in an office file when it is opened.
use Rattle.std.specs.Prelude.{◌≡◌, ◌≢◌, ◌⊎◌, ℕ, ℤ, ◌<◌, ◌≤◌, ◌≤ℤ◌, pos, codes, List, [], ◌∷◌, length, slice_get, Option, Some, MatchOption, Vec, Contains, IsTrue, false, ⊤}
use Rattle.std.specs.declared.alloc.Global.{Global}
use Rattle.sqlite_value.specs.declared.value.Value.TheVariants.{Int}
use Rattle.sqlite_value.specs.Order.{Row, column}
use Rattle.sqlite_rules.specs.Lists.{Has}
use Rattle.sqlite_schema.specs.declared.schema.Schema.{Schema}
use Rattle.sqlite_schema.specs.declared.schema.Table.{Table}
use Rattle.sqlite.specs.Effect.{Database}
use Rattle.sqlite.specs.State.{State, HasCleanDisk}
use Rattle.sigtext.specs.Bytes.{AreBytes}
use Rattle.sigv4.specs.Hmac.{sha256}
use Rattle.boxes.specs.State.{State as Office, Place, Receipt}
use Rattle.boxes.specs.Sound.{IsSound}
use Rattle.sqltables.specs.Schema.{Version, v1, v2, begun_schemas}
use Rattle.sqltables.specs.Tables.{tables_of, piece_of}
use Rattle.sqltables.specs.Means.{Holds, IsWhole, AddsNothing}
use Rattle.sqlaudit.specs.Lines.{AreLines, AreLinesWhere, HaveRowids, IsLater, IsOfficeLine, IsKeyLine, IsBoxLine, IsReceiptLine, IsPieceLine, IsRulesLine, IsLimitLine}
use Rattle.sqlaudit.specs.Portions.{AreRowids}
use Rattle.sqltables.specs.Pieces.{AreBytesOf, HasPiece}
use Rattle.sqlaudit.specs.declared.lines.FileLine.{FileLine}
use Rattle.sqlaudit.specs.declared.lines.ReceiptLine.{ReceiptLine}
use Rattle.sqlaudit.specs.declared.rules.Lines.{Lines}
use Rattle.sqlaudit.specs.declared.lines.OfficeLine.{OfficeLine}
use Rattle.sqlaudit.specs.declared.lines.RulesLine.{RulesLine}
use Rattle.sqlaudit.specs.declared.lines.LimitLine.{LimitLine}
use Rattle.sqlaudit.specs.declared.formats.Format.{Format}
use Rattle.sqlaudit.specs.declared.formats.Format.TheVariants.{First, Second}
use Rattle.sqlaudit.specs.declared.listing.Listed.{Listed}
use Rattle.sqlaudit.specs.declared.opening.Extent.{Extent}
use Rattle.sqlaudit.specs.declared.opening.Extent.TheVariants.{Nothing, Begun, Whole}
use Rattle.sqlaudit.specs.declared.opening.Finding.{Finding}
use Rattle.sqlaudit.specs.declared.opening.Finding.TheVariants.{Sound, OtherVersion, Damaged}
use Rattle.sqlaudit.specs.declared.opening.Found.{Found}
use Rattle.sqlaudit.specs.declared.opening.Found.TheVariants as found

-- ---- which databases are tested

-- the table at this position has this name and this number of columns
pub record IsTableAt (tables : List Table) (at : ℕ) (name : List ℕ) (columns : ℕ) : Type 0 where
  pub table : Table
  pub there : slice_get tables at ≡ Some table
  pub name_is : table.name ≡ name
  pub columns_are : length table.columns ≡ columns

-- the first table is an office's own, by its name and the number of its columns
abbrev pub BeginsAsOffice : Schema → Type 0
BeginsAsOffice schema = IsTableAt schema.tables 0 (codes "office") 3

-- The tables are the first ones of ours, in the order in which they are created, or they do not begin as an office's.
abbrev pub IsOurs : Schema → Type 0
IsOurs schema = Has begun_schemas schema ⊎ (BeginsAsOffice schema → ⊥)

-- while the connection is open, its tables satisfy `IsOurs`
abbrev pub HasOurs : State → Type 0
HasOurs s = IsTrue s.is_open → IsOurs s.now.schema

-- The connection sees the same as before, if it is open.
pub record SeesSame (old new : State) : Type 0 where
  pub was_open : IsTrue new.is_open → IsTrue old.is_open
  pub now_is : IsTrue new.is_open → new.now ≡ old.now
  pub committed_is : IsTrue new.is_open → new.committed ≡ old.committed
  pub mode : new.in_transaction ≡ old.in_transaction

-- while the disk has returned what was written, nothing that the connection sees has changed
abbrev pub OnlyLooks : State → State → Type 0
OnlyLooks old new = HasCleanDisk new → SeesSame old new

-- while the connection is open, it sees the last committed state
abbrev pub IsSettled : State → Type 0
IsSettled s = IsTrue s.is_open → s.now ≡ s.committed

-- The effect of testing a file, whatever the result: the connection sees the same as before, a crash leaves nothing new, and no
-- fault of the disk is forgotten.
pub record LeavesUntouched (old new : State) : Type 0 where
  pub same : OnlyLooks old new
  pub crash : AddsNothing old new
  pub honest : HasCleanDisk new → HasCleanDisk old

-- no transaction is pending, and while the connection is open it sees the last committed state
pub record IsAtRest (s : State) : Type 0 where
  pub autocommit : s.in_transaction ≡ false
  pub settled : IsSettled s

-- the first six tables are those of version 1, by their names
pub record BeginNamed (schema : Schema) : Type 0 where
  pub office : BeginsAsOffice schema
  pub keys : IsTableAt schema.tables 1 (codes "keys") 4
  pub boxes : IsTableAt schema.tables 2 (codes "boxes") 13
  pub receipts : IsTableAt schema.tables 3 (codes "receipts") 7
  pub files : IsTableAt schema.tables 4 (codes "files") 3
  pub pieces : IsTableAt schema.tables 5 (codes "pieces") 4

-- the tables of version 1, by their names, with the indexes of their keys
pub record AreFirstNamed (schema : Schema) : Type 0 where
  pub six : length schema.tables ≡ 6
  pub first : BeginNamed schema
  pub indexes : length schema.indexes ≡ 5
  pub views : schema.views ≡ []

-- an office's tables, by their names, with the indexes of their keys
pub record AreNamed (schema : Schema) : Type 0 where
  pub nine : length schema.tables ≡ 9
  pub first : BeginNamed schema
  pub rules : IsTableAt schema.tables 6 (codes "rules") 2
  pub limits : IsTableAt schema.tables 7 (codes "key_box") 2
  pub staged : IsTableAt schema.tables 8 (codes "staged") 2
  pub indexes : length schema.indexes ≡ 6
  pub views : schema.views ≡ []

abbrev pub AreNamedAs : Format → Schema → Type 0
AreNamedAs First = AreFirstNamed
AreNamedAs Second = AreNamed

-- how many of the tables of this version exist
abbrev pub IsExtent : Version → Extent → Schema → Type 0
IsExtent v Nothing schema = BeginsAsOffice schema → ⊥
IsExtent v Begun schema = Has begun_schemas schema × (schema ≢ v.schema)
IsExtent v Whole schema = schema ≡ v.schema

-- while the connection is open, its tables are the first ones of ours, to this extent, and each row obeys them
abbrev pub IsBegunAs : Version → Extent → State → Type 0
IsBegunAs v extent s = IsTrue s.is_open → Has begun_schemas s.now.schema × IsExtent v extent s.now.schema × IsWhole s.now

-- ---- what the databases are

-- the maximum length of a file in version 1, in bytes
abbrev pub most_first_body : ℕ
most_first_body = 1048576

-- no file of this office was ever longer than that
abbrev pub AreShort : Office → Type 0
AreShort office = (at : ℕ) (r : Receipt) → slice_get office.receipts at ≡ Some r → r.size ≤ most_first_body

-- the tables are those of an office of this version that obeys every rule
pub record AreOffice (v : Version) (db : Database) (office : Office) : Type 0 where
  pub holds : Holds v db (tables_of office)
  pub sound : IsSound office
  pub short : v ≡ v1 → AreShort office

-- the row of the office says this version
pub record SaysVersion (db : Database) (version : ℤ) : Type 0 where
  pub begun : Has begun_schemas db.schema
  pub row : Row
  pub there : Has (db.trees 0) row
  pub each : (row : Row) → Has (db.trees 0) row → column row 2 ≡ Int version

-- no office of this version that obeys every rule has these tables, and they say no other version
pub record AreDamaged (v : Version) (db : Database) : Type 0 where
  pub none : (office : Office) → AreOffice v db office → ⊥
  pub version : (version : ℤ) → SaysVersion db version → version ≡ v.number

-- the result for a file when this version is looked for
abbrev pub IsFound : Version → Finding → Database → Type 0
IsFound v Sound db = (office : Office) × AreOffice v db office
IsFound v OtherVersion db = (version : ℤ) × SaysVersion db version × (version ≢ v.number)
IsFound v Damaged db = AreDamaged v db

-- no office of either version that obeys every rule has these tables, and they say no other version
pub record AreNeither (db : Database) : Type 0 where
  pub first : (office : Office) → AreOffice v1 db office → ⊥
  pub second : (office : Office) → AreOffice v2 db office → ⊥
  pub version : (version : ℤ) → SaysVersion db version → (version ≡ v1.number) ⊎ (version ≡ v2.number)

-- exactly the tables of the version that was found, by their names
abbrev pub HasNamesOf : Found → Schema → Type 0
HasNamesOf found.First schema = AreFirstNamed schema
HasNamesOf found.Second schema = AreNamed schema
HasNamesOf found.OtherVersion schema = ⊤
HasNamesOf found.Damaged schema = ⊤

-- the result for a file when both versions are looked for
abbrev pub IsEither : Found → Database → Type 0
IsEither found.First db = (office : Office) × AreOffice v1 db office
IsEither found.Second db = (office : Office) × AreOffice v2 db office
IsEither found.OtherVersion db = (version : ℤ) × SaysVersion db version × (version ≢ v1.number) × (version ≢ v2.number)
IsEither found.Damaged db = AreNeither db

-- ---- what is read from the databases

-- the values that version 2 would have for an office of version 1: no link begins early, and no key is limited
pub record SayUnlimited (rule_lines : List RulesLine) (limit_lines : List LimitLine) : Type 0 where
  pub rules_are : rule_lines ≡ record { id = pos 1; allowance = pos 0 } ∷ []
  pub limits_are : limit_lines ≡ []

-- the lines are those of the tables that version 2 adds; if these tables do not exist, the lines have the equivalent values
pub record AreAdded (v : Version) (db : Database) (rule_lines : List RulesLine) (limit_lines : List LimitLine) : Type 0 where
  pub unlimited : v ≡ v1 → SayUnlimited rule_lines limit_lines
  pub rules : v ≡ v2 → AreLines IsRulesLine (db.trees 11) rule_lines × HaveRowids (db.trees 11)
  pub limits : v ≡ v2 → AreLines IsLimitLine (db.trees 12) limit_lines × HaveRowids (db.trees 12)

-- the lines are those of all tables except files and pieces, and no two rows of these tables have the same rowid
pub record AreListed (v : Version) (db : Database) (lines : Lines) : Type 0 where
  pub office : AreLines IsOfficeLine (db.trees 0) lines.office.now
  pub keys : AreLines IsKeyLine (db.trees 1) lines.keys.now
  pub boxes : AreLines IsBoxLine (db.trees 3) lines.boxes.now
  pub receipts : AreLines IsReceiptLine (db.trees 5) lines.receipts.now
  pub office_rowids : HaveRowids (db.trees 0)
  pub keys_rowids : HaveRowids (db.trees 1)
  pub boxes_rowids : HaveRowids (db.trees 3)
  pub receipts_rowids : HaveRowids (db.trees 5)
  pub added : AreAdded v db lines.rules.now lines.limits.now

-- the same for all tables except the first; of the files the rowids, and of the pieces those that are not the first of their file
pub record AreTables (v : Version) (db : Database) (listed : Listed) : Type 0 where
  pub keys : AreLines IsKeyLine (db.trees 1) listed.keys.items
  pub boxes : AreLines IsBoxLine (db.trees 3) listed.boxes.items
  pub files : AreRowids (db.trees 6) listed.files.items
  pub pieces : AreLinesWhere IsLater IsPieceLine (db.trees 9) listed.pieces.items
  pub receipts : AreLines IsReceiptLine (db.trees 5) listed.receipts.items
  pub keys_rowids : HaveRowids (db.trees 1)
  pub boxes_rowids : HaveRowids (db.trees 3)
  pub receipts_rowids : HaveRowids (db.trees 5)
  pub files_rowids : HaveRowids (db.trees 6)
  pub pieces_rowids : HaveRowids (db.trees 9)
  pub added : AreAdded v db listed.added.rules.items listed.added.limits.items

-- no line has a length greater than version 1 allows
abbrev pub AreShortLines : List ReceiptLine → Type 0
AreShortLines lines = (line : ReceiptLine) → Contains lines line → line.length ≤ℤ pos most_first_body

-- one or more lines, each of this version
pub record AreOfVersion (lines : List OfficeLine) (version : ℤ) : Type 0 where
  pub some : 0 < length lines
  pub each : (line : OfficeLine) → Contains lines line → line.version ≡ version

abbrev pub place_in : FileLine → Place
place_in file = record { box = file.in_box.items; name = file.name.items }

-- the line is the line of the file's receipt
pub record IsGivenFor (receipts : List ReceiptLine) (file : FileLine) (given : ReceiptLine) : Type 0 where
  pub there : Contains receipts given
  pub number : given.number ≡ file.receipt

-- there is no first piece, and the digest is that of no bytes
pub record IsBare (rows : List Row) (place : Place) (given : ReceiptLine) : Type 0 where
  pub none : (piece : List ℕ) → HasPiece rows place 0 piece → ⊥
  pub digest : sha256 [] ≡ given.digest.items

-- there is a first piece, or the digest is a different one
abbrev pub IsNotBare : List Row → Place → ReceiptLine → Type 0
IsNotBare rows place given = ((piece : List ℕ) × HasPiece rows place 0 piece) ⊎ (sha256 [] ≢ given.digest.items)

-- The pieces of the file are bytes with the length and the digest in its receipt. An empty file has no first piece.
pub record HasBytes (rows : List Row) (receipts : List ReceiptLine) (file : FileLine) : Type 0 where
  pub given : ReceiptLine
  pub is : IsGivenFor receipts file given
  pub bytes : List ℕ
  pub are : AreBytesOf rows (place_in file) (length bytes) bytes
  pub octets : AreBytes bytes
  pub size : given.length ≡ pos (length bytes)
  pub digest : sha256 bytes ≡ given.digest.items
  pub bare : length bytes ≡ 0 → (piece : List ℕ) → HasPiece rows (place_in file) 0 piece → ⊥

-- there is a piece that no bytes of this size have
pub record HasMisfit (rows : List Row) (place : Place) (size : ℕ) : Type 0 where
  pub at : ℕ
  pub piece : List ℕ
  pub stands : HasPiece rows place at piece
  pub misfits : (bytes : List ℕ) → length bytes ≡ size → piece_of bytes at ≢ Some piece

-- no bytes of this size have a row for each of their pieces, or there is a piece that no bytes of this size have
abbrev pub LacksPieces : List Row → Place → ℕ → Type 0
LacksPieces rows place size = ((bytes : List ℕ) → AreBytesOf rows place size bytes → ⊥) ⊎ HasMisfit rows place size

-- these bytes, or none if the pieces are not those of any bytes of this size
abbrev pub AreBytesFound : List Row → Place → ℕ → Option (Vec ℕ Global) → Type 0
AreBytesFound rows place size found = MatchOption found (LacksPieces rows place size) (λ b. AreBytesOf rows place size b.items)

-- the pieces of the file are not those of bytes with the length in its receipt, or they are bytes with a different digest
pub record LacksBytes (rows : List Row) (receipts : List ReceiptLine) (file : FileLine) : Type 0 where
  pub given : ReceiptLine
  pub is : IsGivenFor receipts file given
  pub size : ℕ
  pub size_is : given.length ≡ pos size
  pub lacks : LacksPieces rows (place_in file) size ⊎ ((bytes : List ℕ) × AreBytesOf rows (place_in file) size bytes × (sha256 bytes ≢ given.digest.items))
