-- What the ordered maps of a shelf mean.
use Rattle.std.specs.Prelude.{◌≡◌, ℕ, ◌≤◌, List, length, map, Vec, Bool, false, IsTrue, Some, is_some, option_map, unwrap_or, Result, IfErr}
use Rattle.std.specs.BTreeSet.{BTreeSet, contains_by}
use Rattle.std.specs.FinMap.{FinMap, get}
use Rattle.std.specs.declared.alloc.Global.{Global}
use Rattle.sigtext.specs.Bytes.{bytes_cmp}
use Rattle.sigtext.specs.Counts.{CountsErrors}
use Rattle.boxes.specs.declared.rows.Role.{Role}
use Rattle.boxes.specs.declared.change.NewFile.{NewFile}
use Rattle.boxes.specs.State.{Key, Place, place_cmp, File, Receipt, Settings, Limit, limit_cmp, State}
use Rattle.boxes.specs.Rows.{key_of, settings_of, numbered, numbered_receipt}
use Rattle.boxes.specs.Clerks.{clerks}
use Rattle.boxes.specs.Views.{AreTotals}
use Rattle.boxes.specs.declared.keep.KeepFault.{KeepFault}
use Rattle.boxes.specs.declared.keep.KeepFault.TheVariants.{Memory}
use Rattle.shelf.specs.declared.shelf.ShelvedBox.{ShelvedBox}
use Rattle.shelf.specs.declared.shelf.StoredFile.{StoredFile}
use Rattle.shelf.specs.declared.shelf.Shelf.{Shelf}
use Rattle.shelf.specs.Maps.{found, MapMeans}

abbrev pub bytes_of : Vec ℕ Global → List ℕ
bytes_of v = v.items

abbrev pub place_of : Vec ℕ Global × Vec ℕ Global → Place
place_of k = record { box = k.0.items; name = k.1.items }

abbrev pub shelved_settings : ShelvedBox → Settings
shelved_settings b = settings_of b.row

abbrev pub stored_file : StoredFile → File
stored_file f = record { bytes = f.bytes.items; receipt = f.number }

-- the set has this box
abbrev pub has_box : BTreeSet (Vec ℕ Global) → List ℕ → Bool
has_box boxes name = contains_by (λ x. bytes_cmp name (bytes_of x)) boxes

-- the set under the limit's key has the limit's box
abbrev pub has_limit : List (Vec ℕ Global × BTreeSet (Vec ℕ Global)) → Limit → Bool
has_limit es l = unwrap_or (option_map (λ boxes. has_box boxes l.box) (found bytes_cmp bytes_of es l.key)) false

-- the entries are the limits of the map, and no set is empty
pub record LimitsMean (es : List (Vec ℕ Global × BTreeSet (Vec ℕ Global))) (m : FinMap limit_cmp (Unit {0})) : Type 0 where
  pub each : (l : Limit) → is_some (get m l) ≡ has_limit es l
  pub some : (key : List ℕ) (boxes : BTreeSet (Vec ℕ Global)) → found bytes_cmp bytes_of es key ≡ Some boxes → (box : List ℕ) × IsTrue (has_box boxes box)

-- The shelf holds the state: the settings, maps and limits are those of the state, and so are the receipts, with their
-- numbers. The kept totals are the sums over the files. The kept number of unrevoked clerk's keys is that of the state,
-- and it is at most the number of keys.
pub record Holds (k : Shelf) (s : State) : Type 0 where
  pub offset : k.office.east ≡ s.offset
  pub allowance : k.office.allowance ≡ s.allowance
  pub keys : MapMeans bytes_cmp bytes_of key_of k.keys.entries s.keys
  pub boxes : MapMeans bytes_cmp bytes_of shelved_settings k.boxes.entries s.boxes
  pub files : MapMeans place_cmp place_of stored_file k.files.entries s.files
  pub receipts : map numbered_receipt k.receipts.items ≡ numbered 1 s.receipts
  pub totals : (name : List ℕ) (b : ShelvedBox) → found bytes_cmp bytes_of k.boxes.entries name ≡ Some b → AreTotals s name b.totals
  pub clerks : k.clerks ≡ clerks s
  pub fewer : k.clerks ≤ length k.keys.entries
  pub limits : LimitsMean k.limits.entries s.limits

-- What a query leaves: the shelf means the same states and stages the same bytes as before. The only error is a lack of
-- memory, and it is counted.
pub record Looks {T : Type 0} (old new : Shelf) (result : Result T KeepFault) : Type 0 where
  pub same : (s : State) → Holds old s → Holds new s
  pub count : CountsErrors old.faults new.faults result
  pub fault : IfErr result (λ f. f ≡ Memory)
  pub staged : new.staged ≡ old.staged

-- a key that is added
abbrev pub added_key : Role → List ℕ → Key
added_key role secret = record { role = role; secret = secret; revoked = false }

-- the receipt of a file that is set, with its number
abbrev pub set_receipt : NewFile → ℕ × Receipt
set_receipt f = (f.number, record { box = f.in_box.now; name = f.name.now; size = f.size; digest = f.digest; moment = f.moment; key = f.key.now })
