-- Which tables a transaction has when whole tables are read.
use Rattle.std.specs.Prelude.{List, IsTrue}
use Rattle.sqlite_rules.specs.Lists.{Has}
use Rattle.sqlite.specs.State.{HasCleanDisk}
use Rattle.sqltables.specs.Schema.{Version, begun_schemas}
use Rattle.sqltables.specs.Tables.{HaveRowids}
use Rattle.sqltables.specs.Means.{IsRunning}
use Rattle.sqltables.specs.Inside.{View, seen, HasSchema, HasWhole}
use Rattle.sqlaudit.specs.Lines.{AreLines, IsOfficeLine}
use Rattle.sqlaudit.specs.Opened.{AreOfVersion}
use Rattle.sqlaudit.specs.declared.lines.OfficeLine.{OfficeLine}

-- P holds if the tables begin as an office's
abbrev pub OfBegunOffice : {S : Type 0} → (S → View) → S → S → Type 0 → Type 0
OfBegunOffice g old new P = (v : Version) → Has begun_schemas v.schema → HasSchema v.schema (seen g old)
    → IsTrue (seen g old).in_transaction → HasCleanDisk (seen g new) → P

-- P holds if the definitions of the tables are those of this version
abbrev pub OfTables : {S : Type 0} → Version → (S → View) → S → S → Type 0 → Type 0
OfTables v g old new P = HasSchema v.schema (seen g old) → IsTrue (seen g old).in_transaction → HasCleanDisk (seen g new) → P

-- P holds if the definitions of the tables are those of this version, and each row obeys them
abbrev pub OfWholeTables : {S : Type 0} → Version → (S → View) → S → S → Type 0 → Type 0
OfWholeTables v g old new P = HasSchema v.schema (seen g old) → HasWhole (seen g old)
    → IsTrue (seen g old).in_transaction → HasCleanDisk (seen g new) → P

-- P holds if the tables are those of this version, each row obeys them, and these lines are the office's row, with this version
abbrev pub OfVersion : {S : Type 0} → Version → (S → View) → S → S → List OfficeLine → Type 0 → Type 0
OfVersion v g old new office P = HasSchema v.schema (seen g old) → HasWhole (seen g old)
    → IsRunning (seen g old) → HasCleanDisk (seen g new) → AreLines IsOfficeLine ((seen g old).now.trees 0) office
    → HaveRowids ((seen g old).now.trees 0) → AreOfVersion office v.number → P
