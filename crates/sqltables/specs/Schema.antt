-- The tables of an office in the order in which their CREATE statements make them.
use Rattle.std.specs.Prelude.{◌≡◌, ◌⊎◌, true, false, [], ◌∷◌, Some, None, codes, List, ℕ, ℤ, pos, negsuc}
use Rattle.std.proofs.Common.{inl, inr, refl}
use Rattle.sqlite_value.specs.declared.keys.Collation.TheVariants.{Binary}
use Rattle.sqlite_value.specs.declared.value.Value.TheVariants.{Null, Int}
use Rattle.sqlite_sql.specs.Term.{Term, lit, col, op2}
use Rattle.sqlite_sql.specs.declared.ops.BinaryOp.TheVariants.{Compare, And}
use Rattle.sqlite_sql.specs.declared.ops.CompareOp.TheVariants.{Eq, Lt, Le, Ge}
use Rattle.sqlite_schema.specs.declared.schema.Kind.{Kind}
use Rattle.sqlite_schema.specs.declared.schema.Kind.TheVariants.{Integer, Text, Blob}
use Rattle.sqlite_schema.specs.declared.schema.Action.TheVariants.{Restrict}
use Rattle.sqlite_schema.specs.declared.schema.Column.{Column}
use Rattle.sqlite_schema.specs.declared.schema.Reference.{Reference}
use Rattle.sqlite_schema.specs.declared.schema.Table.{Table}
use Rattle.sqlite_schema.specs.declared.schema.Schema.{Schema}
use Rattle.sqlite_catalog.specs.Change.{created}

abbrev pub column : List ℕ → Kind → Column
column name kind = record { name = name; kind = kind; is_strict = true; not_null = true; default = Null; collation = Binary }

abbrev pub integer : List ℕ → Column
integer name = column name Integer

abbrev pub text : List ℕ → Column
text name = column name Text

abbrev pub blob : List ℕ → Column
blob name = column name Blob

-- the integer in this column of a row (0 is the rowid) lies between these two, inclusive
abbrev pub between : ℕ → ℤ → ℤ → Term
between place low high = op2 And (op2 (Compare Ge Binary) (col 1 place) (lit (Int low))) (op2 (Compare Le Binary) (col 1 place) (lit (Int high)))

-- these columns refer to these columns of the parent table
abbrev pub refers : List ℕ → List ℕ → List (List ℕ) → Reference
refers columns parent parent_columns = record { columns = columns; parent = parent; parent_columns = parent_columns; on_delete = Restrict; on_update = Restrict; is_deferred = false }

-- a table with these columns; the two definitions below add the keys
abbrev pub table : List ℕ → List Column → List Term → List Reference → Table
table name columns checks references = record {
  name = name;
  tree = 0;
  columns = columns;
  key = None;
  primary = [];
  uniques = [];
  orders = [];
  checks = checks;
  references = references;
  computed = [];
  stamps = record { places = []; terms = []; formats = [] };
  is_counted = false;
}

-- the first column is the rowid
abbrev pub numbered : Table → Table
numbered t = record t { key = Some 0; primary = 0 ∷ [] }

-- these columns are the primary key and have their own index
abbrev pub keyed_by : List ℕ → Table → Table
keyed_by places t = record t { primary = places; uniques = places ∷ []; orders = (record { digits = 0 }) ∷ [] }

abbrev pub office_table : Table
office_table = numbered (table (codes "office") (integer (codes "id") ∷ integer (codes "version") ∷ integer (codes "east") ∷ [])
    (op2 (Compare Eq Binary) (col 1 0) (lit (Int (pos 1))) ∷ between 3 (negsuc 839) (pos 840) ∷ []) [])

abbrev pub keys_table : Table
keys_table = keyed_by (1 ∷ []) (table (codes "keys") (text (codes "id") ∷ integer (codes "role") ∷ blob (codes "secret") ∷ integer (codes "revoked") ∷ [])
    (between 2 (pos 0) (pos 1) ∷ between 4 (pos 0) (pos 1) ∷ []) [])

abbrev pub boxes_table : Table
boxes_table = keyed_by (1 ∷ []) (table (codes "boxes")
    (text (codes "name") ∷ integer (codes "opens") ∷ integer (codes "closes") ∷ text (codes "days") ∷ integer (codes "from_minute") ∷ integer (codes "to_minute") ∷ integer (codes "quota")
    ∷ integer (codes "max_files") ∷ integer (codes "mode") ∷ integer (codes "rule_kind") ∷ text (codes "rule_text") ∷ integer (codes "used") ∷ integer (codes "count") ∷ [])
    (between 2 (pos 0) (pos 253402300799) ∷ between 3 (pos 0) (pos 253402300799) ∷ between 7 (pos 0) (pos 1000000000000) ∷ between 8 (pos 0) (pos 1000000)
    ∷ between 9 (pos 0) (pos 1) ∷ between 10 (pos 0) (pos 2)
    ∷ op2 And (op2 And (op2 (Compare Le Binary) (lit (Int (pos 0))) (col 1 5)) (op2 (Compare Lt Binary) (col 1 5) (col 1 6))) (op2 (Compare Le Binary) (col 1 6) (lit (Int (pos 1440)))) ∷ []) [])

abbrev pub receipts_table : Table
receipts_table = numbered (table (codes "receipts")
    (integer (codes "number") ∷ text (codes "box") ∷ text (codes "name") ∷ integer (codes "length") ∷ blob (codes "digest") ∷ integer (codes "moment") ∷ text (codes "key_id") ∷ [])
    (between 6 (pos 0) (pos 253402300799) ∷ [])
    (refers (2 ∷ []) (codes "boxes") (codes "name" ∷ []) ∷ refers (7 ∷ []) (codes "keys") (codes "id" ∷ []) ∷ []))

abbrev pub files_table : Table
files_table = record (table (codes "files") (text (codes "box") ∷ text (codes "name") ∷ integer (codes "receipt") ∷ []) []
    (refers (1 ∷ []) (codes "boxes") (codes "name" ∷ []) ∷ refers (3 ∷ []) (codes "receipts") (codes "number" ∷ []) ∷ []))
    { primary = 1 ∷ 2 ∷ []; uniques = (3 ∷ []) ∷ (1 ∷ 2 ∷ []) ∷ []; orders = (record { digits = 0 }) ∷ (record { digits = 0 }) ∷ [] }

abbrev pub pieces_table : Table
pieces_table = keyed_by (1 ∷ 2 ∷ 3 ∷ []) (table (codes "pieces") (text (codes "box") ∷ text (codes "name") ∷ integer (codes "part") ∷ blob (codes "bytes") ∷ []) []
    (refers (1 ∷ 2 ∷ []) (codes "files") (codes "box" ∷ codes "name" ∷ []) ∷ []))

abbrev pub rules_table : Table
rules_table = numbered (table (codes "rules") (integer (codes "id") ∷ integer (codes "allowance") ∷ [])
    (op2 (Compare Eq Binary) (col 1 0) (lit (Int (pos 1))) ∷ between 2 (pos 0) (pos 900) ∷ []) [])

abbrev pub key_box_table : Table
key_box_table = keyed_by (1 ∷ 2 ∷ []) (table (codes "key_box") (text (codes "key_id") ∷ text (codes "box") ∷ []) []
    (refers (1 ∷ []) (codes "keys") (codes "id" ∷ []) ∷ refers (2 ∷ []) (codes "boxes") (codes "name" ∷ []) ∷ []))

abbrev pub staged_table : Table
staged_table = numbered (table (codes "staged") (integer (codes "part") ∷ blob (codes "bytes") ∷ []) [] [])

-- the tree that holds the rows of `staged` in version 2
abbrev pub staged_tree : ℕ
staged_tree = 14

abbrev pub s0 : Schema
s0 = record { tables = []; indexes = []; views = [] }

abbrev pub s1 : Schema
s1 = created s0 office_table

abbrev pub s2 : Schema
s2 = created s1 keys_table

abbrev pub s3 : Schema
s3 = created s2 boxes_table

abbrev pub s4 : Schema
s4 = created s3 receipts_table

abbrev pub s5 : Schema
s5 = created s4 files_table

-- the schema of version 1
abbrev pub s6 : Schema
s6 = created s5 pieces_table

abbrev pub s7 : Schema
s7 = created s6 rules_table

abbrev pub s8 : Schema
s8 = created s7 key_box_table

-- the schema of version 2
abbrev pub s9 : Schema
s9 = created s8 staged_table

-- the schemas that contain the office's own table, in the order in which the CREATE statements make them
abbrev pub begun_schemas : List Schema
begun_schemas = s1 ∷ s2 ∷ s3 ∷ s4 ∷ s5 ∷ s6 ∷ s7 ∷ s8 ∷ s9 ∷ []

-- the value of `version` in the office's row, and the tables that go with it
pub record Version : Type 0 where
  pub number : ℤ
  pub schema : Schema

abbrev pub v1 : Version
v1 = record { number = pos 1; schema = s6 }

abbrev pub v2 : Version
v2 = record { number = pos 2; schema = s9 }

-- The existing versions. The tables that version 2 adds come after the tables of version 1.
unfoldable pub IsVersion : Version → Type 0
IsVersion v = (v ≡ v1) ⊎ (v ≡ v2)

pub first_version : IsVersion v1
unfolding IsVersion
first_version = inl refl

pub second_version : IsVersion v2
unfolding IsVersion
second_version = inr refl
