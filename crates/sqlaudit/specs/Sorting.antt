-- Lines that were read into a map.
use denote.Bor.{Bor}
use Rattle.std.specs.Prelude.{◌≡◌, ◌≤◌, ◌<ℤ◌, ◌≤ℤ◌, ℕ, ℤ, pos, neg_ℤ, Contains, List, length, slice_get, Option, Some, None, MatchOption, ◌+◌, ◌^◌, ◌-◌, min}
use Rattle.std.specs.declared.cmp.Ordering.{Ordering}
use Rattle.std.specs.FinMap.{FinMap, get}
use Rattle.std.specs.BTreeMap.{BTreeMap}
use Rattle.boxes.specs.State.{Key, NameRule, Place, place_cmp, Receipt, Settings, Limit}
use Rattle.sigtext.specs.Limits.{most_body}
use Rattle.sigv4.specs.Allowances.{most_allowance}
use Rattle.boxes.specs.Rules.{IsName}
use Rattle.boxes.specs.Sound.{IsBoxName, IsDigest, IsMoment, IsNameRule}
use Rattle.boxes.specs.Rows.{settings_of}
use Rattle.sigtext.specs.Bytes.{bytes_cmp}
use Rattle.sqlite_trees.specs.Tree.{IsAscending}
use Rattle.boxes.specs.Maps.{MapMeans, Sets, found}
use Rattle.sqltables.specs.Tables.{Box, rule_number, rule_text}
use Rattle.sqlaudit.specs.Outlines.{AreEntries, HasClerkIn, IsBoxEntry, IsBoxRule, IsFileEntry, IsFileRule, IsKeyEntry, IsKeyRule, IsLimitRule, IsOfficeEntry, IsRulesEntry, used_in, count_in, IsReceiptEntry, IsReceiptRule}
use Rattle.boxes.specs.declared.totals.Totals.{Totals}
use Rattle.sqlaudit.specs.declared.lines.ReceiptLine.{ReceiptLine}
use Rattle.sqlaudit.specs.declared.lines.BoxLine.{BoxLine}
use Rattle.sqlaudit.specs.declared.lines.FileLine.{FileLine}
use Rattle.sqlaudit.specs.declared.lines.LimitLine.{LimitLine}
use Rattle.sqlaudit.specs.declared.rules.Lines.{Lines}
use Rattle.sqlaudit.specs.declared.box_rules.BoxEntry.{BoxEntry}
use Rattle.sqlaudit.specs.declared.receipt_rules.ReceiptEntry.{ReceiptEntry}
use Rattle.sqlaudit.specs.declared.key_rules.KeyEntry.{KeyEntry}

-- the line is the entry, and the entry obeys its rule
pub record IsGood {L K V : Type 0} (IsEntry : L → K → V → Type 0) (Rule : K → V → Type 0) (line : L) (k : K) (v : V) : Type 0 where
  pub entry : IsEntry line k v
  pub rule : Rule k v

-- If there is a map, it means the entries that the lines are. If there is none, the lines are not the entries of any map.
pub record AreIn {L K K' X Y : Type 0} (R : K' → K' → Ordering) (f : K → K') (g : X → Y) (IsEntry : L → K' → Y → Type 0) (lines : List L) (es : List (K × X)) : Type 0 where
  pub map : FinMap R Y
  pub means : MapMeans R f g es map
  pub entries : AreEntries IsEntry (get map) lines

abbrev pub IsRead : {L K K' X Y : Type 0} (R : K' → K' → Ordering) (f : K → K') (g : X → Y) (IsEntry : L → K' → Y → Type 0) (lines : List L) → Option (BTreeMap K X) → Type 0
IsRead {K' = K'} {Y = Y} R f g E lines None = (look : K' → Option Y) → AreEntries E look lines → ⊥
IsRead R f g E lines (Some m) = AreIn R f g E lines m.entries

abbrev pub key_in : KeyEntry → Key
key_in e = record { role = e.role; secret = e.secret.now; revoked = e.revoked }

-- what a key in the code points to
abbrev pub text_of : Bor (List ℕ) → List ℕ
text_of text = text.now

abbrev pub box_in : BoxEntry → Box
box_in e = record { settings = settings_of e.row; used = e.used; count = e.count }

abbrev pub given_in : ReceiptEntry → Receipt
given_in e = record { box = e.in_box.now; name = e.name.now; size = e.size; digest = e.digest.now; moment = e.moment; key = e.key.now }

abbrev pub HoldsKeys : BTreeMap (Bor (List ℕ)) KeyEntry → FinMap bytes_cmp Key → Type 0
HoldsKeys keys m = MapMeans bytes_cmp text_of key_in keys.entries m

-- the boxes of a map, which obey their rules
pub record HoldsBoxes (boxes : BTreeMap (Bor (List ℕ)) BoxEntry) (m : FinMap bytes_cmp Box) : Type 0 where
  pub means : MapMeans bytes_cmp text_of box_in boxes.entries m
  pub good : (name : List ℕ) (b : Box) → get m name ≡ Some b → IsBoxRule name b

-- a line that is a valid receipt for these keys and boxes
abbrev pub IsGiven : FinMap bytes_cmp Key → FinMap bytes_cmp Box → ReceiptLine → ℕ → Receipt → Type 0
IsGiven keys boxes = IsGood IsReceiptEntry (λ at r. IsReceiptRule keys boxes r)

-- the limit given by the line
abbrev pub limit_in : LimitLine → Limit
limit_in line = record { key = line.key.items; box = line.in_box.items }

-- the required forms of the values in a receipt
pub record HasReceiptForms (r : Receipt) : Type 0 where
  pub box : IsBoxName r.box
  pub name : IsName r.name
  pub short : length r.name ≤ 1024
  pub size : r.size ≤ most_body
  pub digest : IsDigest r.digest
  pub moment : IsMoment r.moment

-- the lines are these receipts in order: the first has number 1, and none is missing
abbrev pub HoldsReceipts : List ReceiptLine → List Receipt → Type 0
HoldsReceipts lines receipts = (at : ℕ) → MatchOption (slice_get lines at) (slice_get receipts at ≡ None) (λ line. (r : Receipt) × (slice_get receipts at ≡ Some r) × IsReceiptEntry line at r)

-- the number of each line is below the numbers of all later lines
abbrev pub AreRising : List ReceiptLine → Type 0
AreRising = IsAscending (λ a b. a.number <ℤ b.number)

-- a line that is a file whose receipt is among these
abbrev pub IsFiled : List Receipt → FileLine → Place → ℕ → Type 0
IsFiled receipts = IsGood IsFileEntry (IsFileRule (slice_get receipts))

abbrev pub spot_of : Bor (List ℕ) × Bor (List ℕ) → Place
spot_of k = record { box = k.0.now; name = k.1.now }

-- ---- sums, capped at the greatest 64-bit number

abbrev pub capped : ℕ → ℕ
capped n = min n (2 ^ 64 - 1)

abbrev pub used_at : Option Totals → ℕ
used_at None = 0
used_at (Some t) = t.used

abbrev pub count_at : Option Totals → ℕ
count_at None = 0
count_at (Some t) = t.count

-- the box holds one more file, of this size
pub record AddsTo (box : List ℕ) (size : ℕ) (before after : List (Bor (List ℕ) × Totals)) : Type 0 where
  pub totals : Totals
  pub sets : Sets bytes_cmp text_of box (Some totals) before after
  pub used : totals.used ≡ capped (used_at (found bytes_cmp text_of before box) + size)
  pub count : totals.count ≡ capped (count_at (found bytes_cmp text_of before box) + 1)

-- the sums of each box over the files of the map
pub record AreSums (receipts : List Receipt) (files : FinMap place_cmp ℕ) (sums : List (Bor (List ℕ) × Totals)) : Type 0 where
  pub used : (box : List ℕ) → used_at (found bytes_cmp text_of sums box) ≡ capped (used_in (slice_get receipts) files box)
  pub count : (box : List ℕ) → count_at (found bytes_cmp text_of sums box) ≡ capped (count_in files box)

-- the files of the lines, with the sums of the boxes
abbrev pub AreFiled : List Receipt → List FileLine → BTreeMap (Bor (List ℕ) × Bor (List ℕ)) ℕ → BTreeMap (Bor (List ℕ)) Totals → Type 0
AreFiled receipts lines files sums = (is : AreIn place_cmp spot_of (λ n. n) (IsFiled receipts) lines files.entries) × AreSums receipts is.map sums.entries

-- each line is one of the entries
abbrev pub AreAmong : {L K V : Type 0} (IsEntry : L → K → V → Type 0) (lookup : K → Option V) (lines : List L) → Type 0
AreAmong {K = K} {V = V} E lookup lines = (line : _) → Contains lines line → (k : K) × (v : V) × E line k v × (lookup k ≡ Some v)

-- the lines are not among the files of any map with these receipts
abbrev pub AreUnfiled : List Receipt → List FileLine → Type 0
AreUnfiled receipts lines = (look : Place → Option ℕ) → AreAmong (IsFiled receipts) look lines → ⊥

-- ---- the rules that need no file

-- the lines obey every rule except those about files and pieces
pub record AreRuled (lines : Lines) : Type 0 where
  pub office : (east : ℤ) × AreEntries IsOfficeEntry (λ one. Some east) lines.office.now × ((neg_ℤ (pos 840) ≤ℤ east) × (east ≤ℤ pos 840))
  pub allowance : (allowance : ℕ) × AreEntries IsRulesEntry (λ one. Some allowance) lines.rules.now × (allowance ≤ most_allowance)
  pub keys : FinMap bytes_cmp Key
  pub keys_are : AreEntries (IsGood IsKeyEntry IsKeyRule) (get keys) lines.keys.now
  pub boxes : FinMap bytes_cmp Box
  pub boxes_are : AreEntries (IsGood IsBoxEntry IsBoxRule) (get boxes) lines.boxes.now
  pub limits : (line : LimitLine) → Contains lines.limits.now line → IsLimitRule keys boxes (limit_in line)
  pub receipts : List Receipt
  pub held : HoldsReceipts lines.receipts.now receipts
  pub receipts_are : AreEntries (IsGiven keys boxes) (slice_get receipts) lines.receipts.now
  pub clerk : HasClerkIn keys

abbrev pub HoldsFiles : BTreeMap (Bor (List ℕ) × Bor (List ℕ)) ℕ → FinMap place_cmp ℕ → Type 0
HoldsFiles files m = MapMeans place_cmp spot_of (λ n. n) files.entries m

-- the totals in the line are what its box holds
pub record HasTotals (receipts : List Receipt) (files : FinMap place_cmp ℕ) (line : BoxLine) : Type 0 where
  pub used : line.used ≡ pos (used_in (slice_get receipts) files line.name.items)
  pub count : line.count ≡ pos (count_in files line.name.items)

-- the number and the text are those of the rule, and of no other rule that has the required form
pub record TellsRule (kind : ℤ) (text : List ℕ) (rule : NameRule) : Type 0 where
  pub kind_is : kind ≡ rule_number rule
  pub text_is : text ≡ rule_text rule
  pub alone : (other : NameRule) → IsNameRule other → kind ≡ rule_number other → text ≡ rule_text other → rule ≡ other

-- the settings are the same, except the days, the mode and the rule for names
pub record HaveSameNumbers (a b : Settings) : Type 0 where
  pub opens : a.opens ≡ b.opens
  pub closes : a.closes ≡ b.closes
  pub from_minute : a.from_minute ≡ b.from_minute
  pub to_minute : a.to_minute ≡ b.to_minute
  pub quota : a.quota ≡ b.quota
  pub max_files : a.max_files ≡ b.max_files
