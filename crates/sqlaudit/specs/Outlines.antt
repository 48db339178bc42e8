-- An office without the bytes of its files, and the lines that represent it.
use Rattle.std.specs.Prelude.{◌≡◌, ℕ, ℤ, pos, neg_ℤ, ◌≤ℤ◌, ◌+◌, ◌-◌, ◌*◌, ◌<◌, ◌≤◌, List, Contains, length, filter, sum_by, slice_get, Option, Some, option_map, unwrap_or, IsFalse, IsSome, IsSomeAnd, min, ⊤}
use Rattle.std.specs.List.{AllByRecursion}
use Rattle.std.specs.FinMap.{FinMap, get, entries}
use Rattle.sigtext.specs.Bytes.{bytes_cmp, same_bytes}
use Rattle.sigtext.specs.Limits.{most_body}
use Rattle.sigv4.specs.Allowances.{most_allowance}
use Rattle.sigv4.specs.Credential.{IsKeyId, IsSecret}
use Rattle.boxes.specs.declared.rows.Role.TheVariants.{Clerk, Link}
use Rattle.boxes.specs.State.{Key, Place, place_cmp, Receipt, Limit, limit_cmp}
use Rattle.boxes.specs.Opening.{Fits}
use Rattle.boxes.specs.Rules.{IsName}
use Rattle.boxes.specs.Sound.{IsBoxName, AreSettings, IsDigest, IsMoment}
use Rattle.sqltables.specs.Tables.{Box, role_number, mode_number, rule_number, rule_text, days_text, flag, piece_size}
use Rattle.sqlaudit.specs.declared.lines.OfficeLine.{OfficeLine}
use Rattle.sqlaudit.specs.declared.lines.KeyLine.{KeyLine}
use Rattle.sqlaudit.specs.declared.lines.BoxLine.{BoxLine}
use Rattle.sqlaudit.specs.declared.lines.ReceiptLine.{ReceiptLine}
use Rattle.sqlaudit.specs.declared.lines.FileLine.{FileLine}
use Rattle.sqlaudit.specs.declared.lines.PieceLine.{PieceLine}
use Rattle.sqlaudit.specs.declared.lines.RulesLine.{RulesLine}
use Rattle.sqlaudit.specs.declared.lines.LimitLine.{LimitLine}
use Rattle.sqlaudit.specs.declared.rules.Lines.{Lines}

pub record Outline : Type 0 where
  pub offset : ℤ
  pub allowance : ℕ
  pub keys : FinMap bytes_cmp Key
  pub boxes : FinMap bytes_cmp Box
  pub files : FinMap place_cmp ℕ  -- the number of the receipt
  pub receipts : List Receipt  -- the first has number 1
  pub limits : FinMap limit_cmp (Unit {0})

-- ---- a line is an entry

-- the only line; its version is checked elsewhere
pub record IsOfficeEntry (line : OfficeLine) (one : Unit {0}) (offset : ℤ) : Type 0 where
  pub id_is : line.id ≡ pos 1
  pub east_is : line.east ≡ offset

pub record IsKeyEntry (line : KeyLine) (id : List ℕ) (key : Key) : Type 0 where
  pub id_is : line.id.items ≡ id
  pub role_is : line.role ≡ role_number key.role
  pub secret_is : line.secret.items ≡ key.secret
  pub revoked_is : line.revoked ≡ flag key.revoked

pub record IsBoxEntry (line : BoxLine) (name : List ℕ) (box : Box) : Type 0 where
  pub name_is : line.name.items ≡ name
  pub opens_is : line.opens ≡ pos box.settings.opens
  pub closes_is : line.closes ≡ pos box.settings.closes
  pub days_is : line.days.items ≡ days_text box.settings.days
  pub from_is : line.from_minute ≡ pos box.settings.from_minute
  pub to_is : line.to_minute ≡ pos box.settings.to_minute
  pub quota_is : line.quota ≡ pos box.settings.quota
  pub max_is : line.max_files ≡ pos box.settings.max_files
  pub mode_is : line.mode ≡ mode_number box.settings.mode
  pub kind_is : line.rule_kind ≡ rule_number box.settings.rule
  pub text_is : line.rule_text.items ≡ rule_text box.settings.rule
  pub used_is : line.used ≡ pos box.used
  pub count_is : line.count ≡ pos box.count

-- The first receipt has number 1.
pub record IsReceiptEntry (line : ReceiptLine) (at : ℕ) (receipt : Receipt) : Type 0 where
  pub number_is : line.number ≡ pos (at + 1)
  pub box_is : line.in_box.items ≡ receipt.box
  pub name_is : line.name.items ≡ receipt.name
  pub length_is : line.length ≡ pos receipt.size
  pub digest_is : line.digest.items ≡ receipt.digest
  pub moment_is : line.moment ≡ pos receipt.moment
  pub key_is : line.key.items ≡ receipt.key

pub record IsFileEntry (line : FileLine) (place : Place) (number : ℕ) : Type 0 where
  pub box_is : line.in_box.items ≡ place.box
  pub name_is : line.name.items ≡ place.name
  pub receipt_is : line.receipt ≡ pos number

-- the only line
pub record IsRulesEntry (line : RulesLine) (one : Unit {0}) (allowance : ℕ) : Type 0 where
  pub id_is : line.id ≡ pos 1
  pub allowance_is : line.allowance ≡ pos allowance

pub record IsLimitEntry (line : LimitLine) (limit : Limit) (there : Unit {0}) : Type 0 where
  pub key_is : line.key.items ≡ limit.key
  pub box_is : line.in_box.items ≡ limit.box

-- The lines, as a set, are the entries of a map.
pub record AreEntries {L K V : Type 0} (IsEntry : L → K → V → Type 0) (lookup : K → Option V) (lines : List L) : Type 0 where
  pub each : (line : L) → Contains lines line → (k : K) × (v : V) × IsEntry line k v × (lookup k ≡ Some v)
  pub all : (k : K) (v : V) → lookup k ≡ Some v → (line : L) × Contains lines line × IsEntry line k v

-- ---- the rules for one entry

pub record IsKeyRule (id : List ℕ) (key : Key) : Type 0 where
  pub id_form : IsKeyId id
  pub secret_form : IsSecret key.secret

pub record IsBoxRule (name : List ℕ) (box : Box) : Type 0 where
  pub name_form : IsBoxName name
  pub settings_form : AreSettings box.settings
  pub quota : box.used ≤ box.settings.quota
  pub files : box.count ≤ box.settings.max_files

-- the receipt names an existing box, a name that the box accepts, and an existing key
pub record IsReceiptRule (keys : FinMap bytes_cmp Key) (boxes : FinMap bytes_cmp Box) (r : Receipt) : Type 0 where
  pub box : IsSomeAnd (get boxes r.box) (λ b. Fits b.settings.rule r.name)
  pub name : IsName r.name
  pub short : length r.name ≤ 1024
  pub size : r.size ≤ most_body
  pub digest : IsDigest r.digest
  pub moment : IsMoment r.moment
  pub key : IsSomeAnd (get keys r.key) (λ k. ⊤)

-- the file's receipt exists and has the same place
pub record IsFileRule (receipt : ℕ → Option Receipt) (place : Place) (number : ℕ) : Type 0 where
  pub at : ℕ
  pub counted : number ≡ at + 1
  pub given : Receipt
  pub listed : receipt at ≡ Some given
  pub box : given.box ≡ place.box
  pub name : given.name ≡ place.name

-- an existing key of the role `link`, revoked or not, is limited to an existing box
pub record IsLimitRule (keys : FinMap bytes_cmp Key) (boxes : FinMap bytes_cmp Box) (limit : Limit) : Type 0 where
  pub link : IsSomeAnd (get keys limit.key) (λ k. k.role ≡ Link)
  pub box_there : IsSome (get boxes limit.box)

pub record HasClerkIn (keys : FinMap bytes_cmp Key) : Type 0 where
  pub id : List ℕ
  pub key : Key
  pub there : get keys id ≡ Some key
  pub clerk : key.role ≡ Clerk
  pub unrevoked : IsFalse key.revoked

-- ---- what a box holds

abbrev pub files_in : FinMap place_cmp ℕ → List ℕ → List (Place × ℕ)
files_in files box = filter (λ e. same_bytes e.0.box box) (entries files)

-- the size in the receipt of this number
abbrev pub size_in : (ℕ → Option Receipt) → ℕ → ℕ
size_in receipt number = unwrap_or (option_map (λ r. r.size) (receipt (number - 1))) 0

abbrev pub used_in : (ℕ → Option Receipt) → FinMap place_cmp ℕ → List ℕ → ℕ
used_in receipt files box = sum_by (λ e. size_in receipt e.1) (files_in files box)

abbrev pub count_in : FinMap place_cmp ℕ → List ℕ → ℕ
count_in files box = length (files_in files box)

-- ---- an office

pub record IsSoundOutline (o : Outline) : Type 0 where
  pub east : (neg_ℤ (pos 840) ≤ℤ o.offset) × (o.offset ≤ℤ pos 840)
  pub keys : (id : List ℕ) (k : Key) → get o.keys id ≡ Some k → IsKeyRule id k
  pub boxes : (name : List ℕ) (b : Box) → get o.boxes name ≡ Some b → IsBoxRule name b
  pub files : (place : Place) (number : ℕ) → get o.files place ≡ Some number → IsFileRule (slice_get o.receipts) place number
  pub receipts : AllByRecursion (IsReceiptRule o.keys o.boxes) o.receipts
  pub totals : (name : List ℕ) (b : Box) → get o.boxes name ≡ Some b
      → (b.used ≡ used_in (slice_get o.receipts) o.files name) × (b.count ≡ count_in o.files name)
  pub clerk : HasClerkIn o.keys
  pub allowance : o.allowance ≤ most_allowance
  pub limits : (limit : Limit) (there : Unit {0}) → get o.limits limit ≡ Some there → IsLimitRule o.keys o.boxes limit

-- The line is a piece of an existing file. It has the maximum length of a piece, unless it is the last, which has the rest.
pub record IsPieceIn (receipt : ℕ → Option Receipt) (files : FinMap place_cmp ℕ) (line : PieceLine) : Type 0 where
  pub number : ℕ
  pub there : get files (record { box = line.in_box.items; name = line.name.items }) ≡ Some number
  pub part : ℕ
  pub part_is : line.part ≡ pos part
  pub begun : piece_size * part < size_in receipt number
  pub length_is : line.length ≡ pos (min piece_size (size_in receipt number - piece_size * part))

-- ---- the lines of an office, except those of its files and pieces

pub record AreLinesOf (lines : Lines) (o : Outline) : Type 0 where
  pub office : AreEntries IsOfficeEntry (λ one. Some o.offset) lines.office.now
  pub keys : AreEntries IsKeyEntry (get o.keys) lines.keys.now
  pub boxes : AreEntries IsBoxEntry (get o.boxes) lines.boxes.now
  pub receipts : AreEntries IsReceiptEntry (slice_get o.receipts) lines.receipts.now
  pub rules : AreEntries IsRulesEntry (λ one. Some o.allowance) lines.rules.now
  pub limits : AreEntries IsLimitEntry (get o.limits) lines.limits.now

-- the lines are those of an office that obeys every rule
pub record AreSoundLines (lines : Lines) : Type 0 where
  pub office : Outline
  pub lines_are : AreLinesOf lines office
  pub sound : IsSoundOutline office
