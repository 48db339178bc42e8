-- Edge cases of the rules of uploads and fetches, on small states.
use Rattle.std.proofs.Common.{◌≡◌, ◌<◌, ◌≤◌, ◌+◌, ◌-◌, ℕ, List, [], ◌∷◌, length, codes, get_or, Option, Some, arith, refl, sym, ap, subst, ◌∙◌, inl, ⊎_elim}
use Rattle.std.specs.Prelude.{pos, true, false, IsNone, IfSome, IsSomeAnd, is_some, filter, sum_by, option_map, unwrap_or}
use Rattle.std.specs.FinMap.{FinMap, empty, insert, get, entries, find}
use Rattle.sigtext.specs.Bytes.{bytes_cmp, same_bytes}
use Rattle.sigtext.specs.declared.refusal.Refusal.TheVariants as rule
use Rattle.boxes.specs.declared.rows.Mode.{Mode}
use Rattle.boxes.specs.declared.rows.Mode.TheVariants.{Keep, Replace}
use Rattle.boxes.specs.State.{AnyName, Settings, Place, place_cmp, File, State}
use Rattle.boxes.specs.Totals.{used, count}
use Rattle.boxes.specs.Rules.{Upload, PlaceRule, NewBytesRule, UploadRule, FetchRule, Stands, standing_bytes}
use Rattle.boxes.proofs.Lookups.{bytes_total, place_total, no_entries, entries_put, get_of}

-- open from second 100 to 199, all day and every day
abbrev settings : Mode → ℕ → ℕ → Settings
settings mode quota max_files = record {
  opens = 100;
  closes = 200;
  days = true ∷ true ∷ true ∷ true ∷ true ∷ true ∷ true ∷ [];
  from_minute = 0;
  to_minute = 1440;
  quota = quota;
  max_files = max_files;
  mode = mode;
  rule = AnyName;
}

abbrev in_box : List ℕ → Place
in_box name = record { box = codes "in"; name = name }

abbrev elsewhere : Place
elsewhere = record { box = codes "out"; name = codes "a" }

abbrev first : File
first = record { bytes = codes "abc"; receipt = 1 }

abbrev second : File
second = record { bytes = codes "de"; receipt = 2 }

abbrev third : File
third = record { bytes = codes "fghij"; receipt = 3 }

-- the file `a` of three bytes, and a file in another box
abbrev one_file : FinMap place_cmp File
one_file = insert (insert empty elsewhere third) (in_box (codes "a")) first

-- the same files, and the file `b` of two bytes
abbrev two_files : FinMap place_cmp File
two_files = insert one_file (in_box (codes "b")) second

one_entries : entries one_file ≡ (in_box (codes "a"), first) ∷ (elsewhere, third) ∷ []
one_entries = entries_put place_cmp (insert empty elsewhere third) (in_box (codes "a")) first _ place_total
    (entries_put place_cmp empty elsewhere third _ place_total (no_entries place_cmp))

two_entries : entries two_files ≡ (in_box (codes "a"), first) ∷ (in_box (codes "b"), second) ∷ (elsewhere, third) ∷ []
two_entries = entries_put place_cmp one_file (in_box (codes "b")) second _ place_total one_entries

abbrev state : FinMap place_cmp File → Settings → State
state files box = record {
  offset = pos 0;
  allowance = 0;
  keys = empty;
  boxes = insert empty (codes "in") box;
  files = files;
  receipts = [];
  limits = empty;
}

abbrev upload : List ℕ → List ℕ → ℕ → Upload
upload name bytes now = record { place = in_box name; bytes = bytes; now = now; key = codes "ann" }

true_false : true ≡ false → ⊥
true_false e = cc

there_is : {X : Type 0} (o : Option X) (x : X) → o ≡ Some x → IsNone o → ⊥
there_is o x e none = true_false (sym (ap is_some e) ∙ none)

box_entries : (box : Settings) (q : List ℕ) → get (insert (empty {R = bytes_cmp}) (codes "in") box) q ≡ find bytes_cmp q ((codes "in", box) ∷ [])
box_entries box q = get_of bytes_cmp (insert empty (codes "in") box) _ q (entries_put bytes_cmp empty (codes "in") box [] bytes_total (no_entries bytes_cmp))

-- a property of the box found under `in` is a property of `box`, and the reverse
of_box : (P : Settings → Type 0) (box : Settings) → P box → IfSome (get (insert (empty {R = bytes_cmp}) (codes "in") box) (codes "in")) P
of_box P box h = subst (λ (o : Option Settings). IfSome o P) (sym (box_entries box (codes "in"))) h

at_box : (P : Settings → Type 0) (box : Settings) → IfSome (get (insert (empty {R = bytes_cmp}) (codes "in") box) (codes "in")) P → P box
at_box P box h = subst (λ (o : Option Settings). IfSome o P) (box_entries box (codes "in")) h

-- ---- 27: the box exists

pub box_there : PlaceRule rule.NoSuchBox (state one_file (settings Keep 10 2)) (in_box (codes "a"))
box_there = ap is_some (box_entries (settings Keep 10 2) (codes "in"))

pub box_not_there : PlaceRule rule.NoSuchBox (state one_file (settings Keep 10 2)) elsewhere → ⊥
box_not_there there = true_false (sym there ∙ ap is_some (box_entries (settings Keep 10 2) (codes "out")))

-- ---- 28: names of 1024 bytes, and of one byte more

pub name_of_1024 : (s : State) (place : Place) → length place.name ≡ 1024 → PlaceRule rule.NameTooLong s place
name_of_1024 s place long = omega arith

pub no_name_of_1025 : (s : State) (place : Place) → length place.name ≡ 1025 → PlaceRule rule.NameTooLong s place → ⊥
no_name_of_1025 s place long short = omega arith

-- ---- 30: other bytes and the same bytes for a closed box

pub closed_to_new_bytes : UploadRule rule.BoxClosed (state one_file (settings Replace 10 2)) (upload (codes "a") (codes "xyz") 200) → ⊥
closed_to_new_bytes (place, holds) =
    ⊎_elim (λ stands. not_xyz stands) (λ rest.
    let is = at_box (λ b. NewBytesRule rule.BoxClosed (state one_file (settings Replace 10 2)) b (upload (codes "a") (codes "xyz") 200)) (settings Replace 10 2) rest in
    let early : 200 < 200 = is.not_closed in
    omega arith) holds
  where
    not_xyz : Stands (state one_file (settings Replace 10 2)) (upload (codes "a") (codes "xyz") 200) → ⊥
    not_xyz stands =
        let same : codes "abc" ≡ codes "xyz" = subst (λ (o : Option File). IsSomeAnd o (λ f. f.bytes ≡ codes "xyz")) (get_of place_cmp one_file _ (in_box (codes "a")) one_entries) stands in
        let byte : ◌≡◌ {A = ℕ} 97 120 = ap (λ (t : List ℕ). get_or t 0 0) same in
        omega arith

-- the file is stored under the name with these bytes
stands_again : (box : Settings) (now : ℕ) → Stands (state one_file box) (upload (codes "a") (codes "abc") now)
stands_again box now = subst (λ (o : Option File). IsSomeAnd o (λ f. f.bytes ≡ codes "abc")) (sym (get_of place_cmp one_file _ (in_box (codes "a")) one_entries)) refl

-- for a repeat, the opening hours, the mode, the number of files and the quota are not checked
pub repeat_when_closed : UploadRule rule.BoxClosed (state one_file (settings Keep 0 0)) (upload (codes "a") (codes "abc") 200)
repeat_when_closed = (tt, inl (stands_again (settings Keep 0 0) 200))

pub repeat_when_kept : UploadRule rule.OtherBytesKept (state one_file (settings Keep 0 0)) (upload (codes "a") (codes "abc") 200)
repeat_when_kept = (tt, inl (stands_again (settings Keep 0 0) 200))

pub repeat_when_full : UploadRule rule.TooManyFiles (state one_file (settings Keep 0 0)) (upload (codes "a") (codes "abc") 200)
repeat_when_full = (tt, inl (stands_again (settings Keep 0 0) 200))

pub repeat_past_quota : UploadRule rule.QuotaPassed (state one_file (settings Keep 0 0)) (upload (codes "a") (codes "abc") 200)
repeat_past_quota = (tt, inl (stands_again (settings Keep 0 0) 200))

-- ---- 31: with a stored file, and without one

abbrev Kept : Settings → List ℕ → Type 0
Kept box name = NewBytesRule rule.OtherBytesKept (state one_file box) box (upload name (codes "xyz") 100)

pub keeps_what_stands : Kept (settings Keep 10 2) (codes "a") → ⊥
keeps_what_stands holds = there_is (get one_file (in_box (codes "a"))) first (get_of place_cmp one_file _ (in_box (codes "a")) one_entries) (holds refl)

pub keeps_a_new_name : Kept (settings Keep 10 2) (codes "b")
keeps_a_new_name keep = ap is_some (get_of place_cmp one_file _ (in_box (codes "b")) one_entries)

pub replaces_what_stands : Kept (settings Replace 10 2) (codes "a")
replaces_what_stands keep = absurd cc

-- ---- 32: a box for two files

abbrev HasRoom : FinMap place_cmp File → List ℕ → Type 0
HasRoom files name = NewBytesRule rule.TooManyFiles (state files (settings Replace 10 2)) (settings Replace 10 2) (upload name (codes "xyz") 100)

-- the files of other boxes do not count
one_counted : count (state one_file (settings Replace 10 2)) (codes "in") ≡ 1
one_counted = ap (λ (es : List (Place × File)). length (filter (λ e. same_bytes e.0.box (codes "in")) es)) one_entries

two_counted : count (state two_files (settings Replace 10 2)) (codes "in") ≡ 2
two_counted = ap (λ (es : List (Place × File)). length (filter (λ e. same_bytes e.0.box (codes "in")) es)) two_entries

pub room_for_a_second : HasRoom one_file (codes "b")
room_for_a_second new = omega (arith, one_counted)

pub no_room_for_a_third : HasRoom two_files (codes "c") → ⊥
no_room_for_a_third holds =
    let fewer : count (state two_files (settings Replace 10 2)) (codes "in") < 2 = holds (ap is_some (get_of place_cmp two_files _ (in_box (codes "c")) two_entries)) in
    omega (arith, two_counted)

pub replacing_needs_no_room : HasRoom two_files (codes "a")
replacing_needs_no_room new = absurd (there_is (get two_files (in_box (codes "a"))) first (get_of place_cmp two_files _ (in_box (codes "a")) two_entries) new)

-- ---- 33: a quota of ten bytes, with five used

abbrev IsWithin : List ℕ → List ℕ → Type 0
IsWithin name bytes = NewBytesRule rule.QuotaPassed (state two_files (settings Replace 10 9)) (settings Replace 10 9) (upload name bytes 100)

five_used : used (state two_files (settings Replace 10 9)) (codes "in") ≡ 5
five_used = ap (λ (es : List (Place × File)). sum_by (λ e. length e.1.bytes) (filter (λ e. same_bytes e.0.box (codes "in")) es)) two_entries

-- how many bytes are stored under a name
standing : (name : List ℕ) → standing_bytes (state two_files (settings Replace 10 9)) (in_box name)
    ≡ unwrap_or (option_map (λ f. length f.bytes) (find place_cmp (in_box name) ((in_box (codes "a"), first) ∷ (in_box (codes "b"), second) ∷ (elsewhere, third) ∷ []))) 0
standing name = ap (λ (o : Option File). unwrap_or (option_map (λ f. length f.bytes) o) 0) (get_of place_cmp two_files _ (in_box name) two_entries)

-- with n bytes stored under the name, new bytes fit exactly if 5 - n plus their length is at most 10
abbrev stood_at : List ℕ → ℕ
stood_at name = standing_bytes (state two_files (settings Replace 10 9)) (in_box name)

within : (name bytes : List ℕ) (n : ℕ) → stood_at name ≡ n → 5 - n + length bytes ≤ 10 → IsWithin name bytes
within name bytes n stood few = omega (arith, five_used, stood, few)

not_within : (name bytes : List ℕ) (n : ℕ) → stood_at name ≡ n → 10 < 5 - n + length bytes → IsWithin name bytes → ⊥
not_within name bytes n stood many is =
    let most : used (state two_files (settings Replace 10 9)) (codes "in") - stood_at name + length bytes ≤ 10 = is in
    omega (arith, five_used, stood, many)

pub five_more : (bytes : List ℕ) → length bytes ≡ 5 → IsWithin (codes "c") bytes
five_more bytes long = within (codes "c") bytes 0 (standing (codes "c")) (omega arith)

pub not_six_more : (bytes : List ℕ) → length bytes ≡ 6 → IsWithin (codes "c") bytes → ⊥
not_six_more bytes long = not_within (codes "c") bytes 0 (standing (codes "c")) (omega arith)

-- the three bytes stored under `a` make room
pub eight_for_three : (bytes : List ℕ) → length bytes ≡ 8 → IsWithin (codes "a") bytes
eight_for_three bytes long = within (codes "a") bytes 3 (standing (codes "a")) (omega arith)

pub not_nine_for_three : (bytes : List ℕ) → length bytes ≡ 9 → IsWithin (codes "a") bytes → ⊥
not_nine_for_three bytes long = not_within (codes "a") bytes 3 (standing (codes "a")) (omega arith)

-- ---- 34: a file is stored under the box and name

pub file_there : FetchRule rule.NoSuchFile (state one_file (settings Keep 10 2)) (in_box (codes "a"))
file_there = ap is_some (get_of place_cmp one_file _ (in_box (codes "a")) one_entries)

pub file_not_there : FetchRule rule.NoSuchFile (state one_file (settings Keep 10 2)) (in_box (codes "b")) → ⊥
file_not_there there = true_false (sym there ∙ ap is_some (get_of place_cmp one_file _ (in_box (codes "b")) one_entries))

-- the length of the name is checked for a fetch too, as for an upload
pub no_fetch_of_1025 : (s : State) (place : Place) → length place.name ≡ 1025 → FetchRule rule.NameTooLong s place → ⊥
no_fetch_of_1025 s place long short = omega arith
