-- The tables of an office as maps, the rows that mean them, and the tables of a state.
use Rattle.std.specs.Prelude.{◌≡◌, ◌≢◌, ℕ, ◌+◌, ◌*◌, ◌&&◌, ℤ, pos, Bool, if◌then◌else◌, nat_lt, nat_eq, List, [], ◌∷◌, ◌++◌, map, take, drop, length, Option, Some, None, option_map, option_and_then, slice_get}
use Rattle.std.specs.FinMap.{get}
use Rattle.std.specs.List.{AllByRecursion}
use Rattle.sqlite_value.specs.declared.value.Value.TheVariants.{Int, Text, Blob}
use Rattle.sqlite_value.specs.Order.{Row, column}
use Rattle.sqlite_trees.specs.Tree.{Trees, rowid}
use Rattle.sqlite_rules.specs.Lists.{Has}
use Rattle.sqlite.specs.Effect.{Database}
use Rattle.sigtext.specs.Bytes.{same_bytes}
use Rattle.boxes.specs.declared.rows.Role.{Role}
use Rattle.boxes.specs.declared.rows.Role.TheVariants.{Clerk, Link}
use Rattle.boxes.specs.declared.rows.Mode.{Mode}
use Rattle.boxes.specs.declared.rows.Mode.TheVariants.{Keep, Replace}
use Rattle.boxes.specs.State.{Key, NameRule, AnyName, Ends, Begins, Settings, Place, Receipt, Limit, State}
use Rattle.boxes.specs.Totals.{used, count}
use Rattle.sqltables.specs.Schema.{Version, v1, v2, staged_tree}

-- ---- the tables as maps

-- a box with its totals
pub record Box : Type 0 where
  pub settings : Settings
  pub used : ℕ  -- in bytes
  pub count : ℕ

-- the place of the file with this name in this box
abbrev pub placed : List ℕ → List ℕ → Place
placed in_box name = record { box = in_box; name = name }

-- the place of a piece of a file
pub record Part : Type 0 where
  pub place : Place
  pub at : ℕ

-- Each table as a map from its key. No law relates one table to another.
pub record Tables : Type 0 where
  pub offset : ℤ
  pub allowance : ℕ
  pub key : List ℕ → Option Key
  pub box : List ℕ → Option Box
  pub receipt : ℕ → Option Receipt  -- the first stands at 0
  pub file : Place → Option ℕ  -- the number of its receipt
  pub piece : Part → Option (List ℕ)
  pub limit : Limit → Option (Unit {0})

abbrev pub same_place : Place → Place → Bool
same_place a b = same_bytes a.box b.box && same_bytes a.name b.name

abbrev pub same_part : Part → Part → Bool
same_part a b = same_place a.place b.place && nat_eq a.at b.at

abbrev pub same_limit : Limit → Limit → Bool
same_limit a b = same_bytes a.key b.key && same_bytes a.box b.box

-- the map with this entry
abbrev pub put : {K V : Type 0} → (K → K → Bool) → (K → Option V) → K → V → K → Option V
put same f k v q = if same q k then Some v else f q

-- the map without the entries whose keys pass the test
abbrev pub without : {K V : Type 0} → (K → Bool) → (K → Option V) → K → Option V
without test f q = if test q then None else f q

-- ---- the tables of a state

abbrev pub piece_size : ℕ
piece_size = 65536

-- piece number `at` of these bytes
abbrev pub piece_of : List ℕ → ℕ → Option (List ℕ)
piece_of bytes at = if nat_lt (piece_size * at) (length bytes) then Some (take piece_size (drop (piece_size * at) bytes)) else None

abbrev pub tables_of : State → Tables
tables_of s = record {
  offset = s.offset;
  allowance = s.allowance;
  key = get s.keys;
  box = λ name. option_map (λ b. record { settings = b; used = used s name; count = count s name }) (get s.boxes name);
  receipt = slice_get s.receipts;
  file = λ place. option_map (λ f. f.receipt) (get s.files place);
  piece = λ part. option_and_then (λ f. piece_of f.bytes part.at) (get s.files part.place);
  limit = get s.limits;
}

-- the tables are those of the state
abbrev pub IsOf : Tables → State → Type 0
IsOf tables s = tables ≡ tables_of s

-- ---- the tables in the database

-- The rows, as a set, are the entries of a map: each row is one entry, and each entry has a row. No two rows have the same rowid.
pub record RowsMean {K V : Type 0} (IsRow : Row → K → V → Type 0) (lookup : K → Option V) (rows : List Row) : Type 0 where
  pub each : (row : Row) → Has rows row → (k : K) × (v : V) × IsRow row k v × (lookup k ≡ Some v)
  pub all : (k : K) (v : V) → lookup k ≡ Some v → (row : Row) × Has rows row × IsRow row k v
  pub keyed : (row : Row) → Has rows row → (n : ℤ) × (rowid row ≡ Int n)
  pub apart : (a b : Row) → Has rows a → Has rows b → rowid a ≡ rowid b → a ≡ b

-- each rowid is a number, and no two rows share one
pub record HaveRowids (rows : List Row) : Type 0 where
  pub keyed : (row : Row) → Has rows row → (n : ℤ) × (rowid row ≡ Int n)
  pub apart : (a b : Row) → Has rows a → Has rows b → rowid a ≡ rowid b → a ≡ b

abbrev pub flag : Bool → ℤ
flag b = if b then pos 1 else pos 0

abbrev pub role_number : Role → ℤ
role_number Link = pos 0
role_number Clerk = pos 1

abbrev pub mode_number : Mode → ℤ
mode_number Keep = pos 0
mode_number Replace = pos 1

abbrev pub rule_number : NameRule → ℤ
rule_number AnyName = pos 0
rule_number (Ends texts) = pos 1
rule_number (Begins text) = pos 2

-- texts joined by commas
abbrev pub joined : List (List ℕ) → List ℕ
joined [] = []
joined (t ∷ []) = t
joined (t ∷ u ∷ ts) = t ++ 0x2C ∷ joined (u ∷ ts)

abbrev pub rule_text : NameRule → List ℕ
rule_text AnyName = []
rule_text (Ends texts) = joined texts
rule_text (Begins text) = text

abbrev pub days_text : List Bool → List ℕ
days_text = map (λ d. if d then 0x31 else 0x30)

-- the only row
pub record IsOfficeRow (version : ℤ) (row : Row) (one : Unit {0}) (offset : ℤ) : Type 0 where
  pub id_is : column row 0 ≡ Int (pos 1)
  pub version_is : column row 2 ≡ Int version
  pub east_is : column row 3 ≡ Int offset

pub record IsKeyRow (row : Row) (id : List ℕ) (key : Key) : Type 0 where
  pub id_is : column row 1 ≡ Text id
  pub role_is : column row 2 ≡ Int (role_number key.role)
  pub secret_is : column row 3 ≡ Blob key.secret
  pub revoked_is : column row 4 ≡ Int (flag key.revoked)

pub record IsBoxRow (row : Row) (name : List ℕ) (box : Box) : Type 0 where
  pub name_is : column row 1 ≡ Text name
  pub opens_is : column row 2 ≡ Int (pos box.settings.opens)
  pub closes_is : column row 3 ≡ Int (pos box.settings.closes)
  pub days_is : column row 4 ≡ Text (days_text box.settings.days)
  pub from_is : column row 5 ≡ Int (pos box.settings.from_minute)
  pub to_is : column row 6 ≡ Int (pos box.settings.to_minute)
  pub quota_is : column row 7 ≡ Int (pos box.settings.quota)
  pub max_is : column row 8 ≡ Int (pos box.settings.max_files)
  pub mode_is : column row 9 ≡ Int (mode_number box.settings.mode)
  pub kind_is : column row 10 ≡ Int (rule_number box.settings.rule)
  pub text_is : column row 11 ≡ Text (rule_text box.settings.rule)
  pub used_is : column row 12 ≡ Int (pos box.used)
  pub count_is : column row 13 ≡ Int (pos box.count)

-- The first receipt has number 1.
pub record IsReceiptRow (row : Row) (at : ℕ) (receipt : Receipt) : Type 0 where
  pub number_is : column row 0 ≡ Int (pos (at + 1))
  pub box_is : column row 2 ≡ Text receipt.box
  pub name_is : column row 3 ≡ Text receipt.name
  pub length_is : column row 4 ≡ Int (pos receipt.size)
  pub digest_is : column row 5 ≡ Blob receipt.digest
  pub moment_is : column row 6 ≡ Int (pos receipt.moment)
  pub key_is : column row 7 ≡ Text receipt.key

pub record IsFileRow (row : Row) (place : Place) (number : ℕ) : Type 0 where
  pub box_is : column row 1 ≡ Text place.box
  pub name_is : column row 2 ≡ Text place.name
  pub receipt_is : column row 3 ≡ Int (pos number)

pub record IsPieceRow (row : Row) (part : Part) (bytes : List ℕ) : Type 0 where
  pub box_is : column row 1 ≡ Text part.place.box
  pub name_is : column row 2 ≡ Text part.place.name
  pub part_is : column row 3 ≡ Int (pos part.at)
  pub bytes_is : column row 4 ≡ Blob bytes

pub record IsRulesRow (row : Row) (one : Unit {0}) (allowance : ℕ) : Type 0 where
  pub id_is : column row 0 ≡ Int (pos 1)
  pub allowance_is : column row 2 ≡ Int (pos allowance)

-- a box that a limited key may use
pub record IsLimitRow (row : Row) (limit : Limit) (there : Unit {0}) : Type 0 where
  pub key_is : column row 1 ≡ Text limit.key
  pub box_is : column row 2 ≡ Text limit.box

-- an office of version 1 lets no link begin early and limits no key
abbrev pub IsUnlimited : Tables → Type 0
IsUnlimited tables = (tables.allowance ≡ 0) × ((limit : Limit) → tables.limit limit ≡ None)

-- The rows of each table mean its map. Version 2 adds the last two tables. What is staged means nothing.
pub record TablesMean (v : Version) (trees : Trees) (tables : Tables) : Type 0 where
  pub office : RowsMean (IsOfficeRow v.number) (λ one. Some tables.offset) (trees 0)
  pub keys : RowsMean IsKeyRow tables.key (trees 1)
  pub boxes : RowsMean IsBoxRow tables.box (trees 3)
  pub receipts : RowsMean IsReceiptRow tables.receipt (trees 5)
  pub files : RowsMean IsFileRow tables.file (trees 6)
  pub pieces : RowsMean IsPieceRow tables.piece (trees 9)
  pub unlimited : v ≡ v1 → IsUnlimited tables
  pub rules : v ≡ v2 → RowsMean IsRulesRow (λ one. Some tables.allowance) (trees 11)
  pub limits : v ≡ v2 → RowsMean IsLimitRow tables.limit (trees 12)

-- ---- what is staged

-- nothing is staged
abbrev pub NoneStaged : Trees → Type 0
NoneStaged trees = trees staged_tree ≡ []

-- nothing is staged any more, and every other table has the same rows as before
pub record IsEmptied (old new : Database) : Type 0 where
  pub schema : new.schema ≡ old.schema
  pub others : AllByRecursion (λ t. t.tree ≢ staged_tree → new.trees t.tree ≡ old.trees t.tree) old.schema.tables
  pub none : NoneStaged new.trees
