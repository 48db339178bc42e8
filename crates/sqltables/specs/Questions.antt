-- What queries show.
use Rattle.std.specs.Prelude.{◌≡◌, ℕ, ℤ, suc, zero, pos, List, [], ◌∷◌, map, true, Option, Some, None, IsSome, option_map}
use Rattle.std.specs.FinSet.{len, from_list}
use Rattle.sqlite_value.specs.declared.value.Value.{Value}
use Rattle.sqlite_value.specs.declared.value.Value.TheVariants.{Null, Int, Real, Text, Blob}
use Rattle.sqlite_value.specs.Order.{Row, column}
use Rattle.sqlite_rules.specs.Lists.{Has}
use Rattle.sigtext.specs.Bytes.{bytes_cmp}
use Rattle.boxes.specs.State.{Key, Receipt, Limit}
use Rattle.boxes.specs.Clerks.{is_acting}
use Rattle.boxes.specs.declared.totals.Totals.{Totals}
use Rattle.boxes.specs.declared.rows.ReceiptRow.{ReceiptRow}
use Rattle.boxes.specs.Rows.{receipt_in}
use Rattle.sqlite.specs.State.{State, Shown}
use Rattle.sqltables.specs.Tables.{Tables, Box, role_number, flag, days_text, mode_number, rule_number, rule_text}

-- the number of the last of this many receipts, if there is one
abbrev pub last_rows : ℕ → List Row
last_rows zero = []
last_rows (suc n) = (Int (pos (suc n)) ∷ []) ∷ []

abbrev pub shown_key : Key → Row
shown_key key = Int (role_number key.role) ∷ Blob key.secret ∷ Int (flag key.revoked) ∷ []

abbrev pub shown_office : ℤ → ℤ → Row
shown_office version offset = Int version ∷ Int offset ∷ []

abbrev pub shown_box : Box → Row
shown_box b =
    Int (pos b.settings.opens) ∷ Int (pos b.settings.closes) ∷ Text (days_text b.settings.days) ∷ Int (pos b.settings.from_minute) ∷ Int (pos b.settings.to_minute) ∷ Int (pos b.settings.quota)
    ∷ Int (pos b.settings.max_files) ∷ Int (mode_number b.settings.mode) ∷ Int (rule_number b.settings.rule) ∷ Text (rule_text b.settings.rule) ∷ Int (pos b.used) ∷ Int (pos b.count) ∷ []

abbrev pub shown_totals : Box → Row
shown_totals b = Int (pos b.used) ∷ Int (pos b.count) ∷ []

abbrev pub shown_receipt : Receipt → Row
shown_receipt r = Text r.box ∷ Text r.name ∷ Int (pos r.size) ∷ Blob r.digest ∷ Int (pos r.moment) ∷ Text r.key ∷ []

abbrev pub shown_number : ℕ → Row
shown_number n = Int (pos n) ∷ []

-- the last of the rows that the query shows, if it shows any
pub record ShowsRow (sql : List ℕ) (given : Row) (old new : State) (row : Option Row) : Type 0 where
  pub rows : List Row
  pub shown : Shown sql given old new rows
  pub some : (r : Row) → row ≡ Some r → Has rows r
  pub none : row ≡ None → rows ≡ []

-- the totals of a box if it exists, otherwise zero
abbrev pub AreTotalsOf : Option Box → Totals → Type 0
AreTotalsOf None t = (t.used ≡ 0) × (t.count ≡ 0)
AreTotalsOf (Some b) t = (t.used ≡ b.used) × (t.count ≡ b.count)

-- the receipt with its number, if it exists
abbrev pub IsReceiptOf : ℕ → Option Receipt → Option ReceiptRow → Type 0
IsReceiptOf number there found = (option_map receipt_in found ≡ there) × ((r : ReceiptRow) → found ≡ Some r → r.number ≡ number)

-- ---- the boxes that a key is limited to

abbrev pub shown_name : List ℕ → Row
shown_name name = Text name ∷ []

-- the key's set of boxes holds this box
abbrev pub HasLimit : Tables → List ℕ → List ℕ → Type 0
HasLimit tables key box = IsSome (tables.limit (record { key = key; box = box }))

-- the key's set of boxes is empty or holds this box
abbrev pub ReachesBox : Tables → List ℕ → List ℕ → Type 0
ReachesBox tables key box = (other : List ℕ) × HasLimit tables key other → HasLimit tables key box

-- the rows, as a set, are the names of these boxes
pub record AreLimits (lookup : Limit → Option (Unit {0})) (key : List ℕ) (rows : List Row) : Type 0 where
  pub sound : (row : Row) → Has rows row → (box : List ℕ) × (row ≡ shown_name box) × IsSome (lookup (record { key = key; box = box }))
  pub complete : (box : List ℕ) → IsSome (lookup (record { key = key; box = box })) → Has rows (shown_name box)

-- ---- the unrevoked clerk keys

abbrev pub shown_id : List ℕ → Row
shown_id id = Text id ∷ []

-- the rows, as a set, are the ids of the unrevoked clerk keys
pub record AreActing (lookup : List ℕ → Option Key) (rows : List Row) : Type 0 where
  pub sound : (row : Row) → Has rows row → (id : List ℕ) × (key : Key) × (row ≡ shown_id id) × (lookup id ≡ Some key) × (is_acting key ≡ true)
  pub complete : (id : List ℕ) (key : Key) → lookup id ≡ Some key → is_acting key ≡ true → Has rows (shown_id id)

-- the bytes of a text; empty for a value that is not a text
abbrev pub text_in : Value → List ℕ
text_in Null = []
text_in (Int n) = []
text_in (Real x) = []
text_in (Text text) = text
text_in (Blob bytes) = []

abbrev pub first_text : Row → List ℕ
first_text row = text_in (column row 0)

-- the first column of some row is this text
pub record ShowsText (rows : List Row) (text : List ℕ) : Type 0 where
  pub row : Row
  pub there : Has rows row
  pub first : first_text row ≡ text

-- how many different texts the first columns of the rows hold
abbrev pub different_texts : List Row → ℕ
different_texts rows = len (from_list {R = bytes_cmp} (map first_text rows))
