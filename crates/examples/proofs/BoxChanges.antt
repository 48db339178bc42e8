-- The state of a small office after each desk command, and which office is full.
use Rattle.std.proofs.Common.{◌≡◌, ◌∙◌, ◌≤◌, [], ◌∷◌, codes, length, Some, None, false, true, arith, sym, ap}
use Rattle.std.specs.FinMap.{FinMap, insert, get, get-remove, entries}
use Rattle.boxes.specs.declared.rows.Role.TheVariants.{Clerk, Link}
use Rattle.boxes.specs.declared.change.Command as row
use Rattle.boxes.specs.declared.change.NewFile.{NewFile}
use Rattle.boxes.specs.declared.change.Change.TheVariants as change
use Rattle.sigtext.specs.Bytes.{bytes_cmp}
use Rattle.boxes.specs.State.{Key, Settings, place_cmp, File, Receipt, State}
use Rattle.boxes.specs.Steps.{CommandStep, AddKey, RevokeKey, AddBox, CloseBox, DropFile, LimitKey, SetAllowance}
use Rattle.boxes.specs.Changes.{most_receipts, IsPastFull}
use Rattle.boxes.proofs.Lookups.{bytes_total, place_total, entries_put, get_of, get_same}
use Rattle.boxes.proofs.CommandSteps.{key_added_is, key_revoked_is, box_added_is, box_closed_is, file_dropped_is, key_limited_is, allowance_set_is}
use Rattle.examples.proofs.BoxSteps.{place, first, file, files, file_entries, closing, settings, boxes, box_entries, with_keys, office, key, ann, ann_and, ann_entries, both_entries}

some_is : {X : Type 0} (x y : X) → Some x ≡ Some y → x ≡ y
some_is x y e = cc

-- ---- keys

-- a link's key is added next to the clerk's, unrevoked
pub key_comes : (after : State) → CommandStep (with_keys ann) (AddKey (codes "bob") Link (codes "other")) after
    → (entries after.keys ≡ (codes "ann", key Clerk false) ∷ (codes "bob", record { role = Link; secret = codes "other"; revoked = false }) ∷ [])
    × (after.boxes ≡ boxes) × (after.files ≡ files) × (after.receipts ≡ first ∷ [])
key_comes after step =
    let is = key_added_is (with_keys ann) (codes "bob") Link (codes "other") after step in (
      ap (λ (s : State). entries s.keys) is ∙ entries_put bytes_cmp ann (codes "bob") (record { role = Link; secret = codes "other"; revoked = false }) _ bytes_total ann_entries,
      ap (λ (s : State). s.boxes) is,
      ap (λ (s : State). s.files) is,
      ap (λ (s : State). s.receipts) is,
    )

-- the key stays with its role and its secret, and is revoked
pub key_is_revoked : (after : State) → CommandStep (with_keys (ann_and (key Clerk false))) (RevokeKey (codes "bob")) after
    → (entries after.keys ≡ (codes "ann", key Clerk false) ∷ (codes "bob", key Clerk true) ∷ [])
    × (after.boxes ≡ boxes) × (after.files ≡ files) × (after.receipts ≡ first ∷ [])
key_is_revoked after step =
    let s = with_keys (ann_and (key Clerk false)) in
    let (k, there, is) = key_revoked_is s (codes "bob") after step in
    let was : key Clerk false ≡ k = some_is _ _ (sym (get_same ann (codes "bob") (key Clerk false)) ∙ there) in
    let revoked : Key = record k { revoked = true } in
    let same : revoked ≡ key Clerk true = ap (λ (x : Key). record x { revoked = true }) (sym was) in (
      ap (λ (s : State). entries s.keys) is ∙ entries_put bytes_cmp (ann_and (key Clerk false)) (codes "bob") revoked _ bytes_total (both_entries (key Clerk false))
          ∙ ap (λ (x : Key). (codes "ann", key Clerk false) ∷ (codes "bob", x) ∷ []) same,
      ap (λ (s : State). s.boxes) is,
      ap (λ (s : State). s.files) is,
      ap (λ (s : State). s.receipts) is,
    )

-- ---- boxes

-- a box is added next to the other
pub box_comes : (after : State) → CommandStep office (AddBox (codes "out") (closing 300)) after
    → (entries after.boxes ≡ (codes "in", closing 200) ∷ (codes "out", closing 300) ∷ [])
    × (after.keys ≡ office.keys) × (after.files ≡ files) × (after.receipts ≡ first ∷ [])
box_comes after step =
    let is = box_added_is office (codes "out") (closing 300) after step in (
      ap (λ (s : State). entries s.boxes) is ∙ entries_put bytes_cmp boxes (codes "out") (closing 300) _ bytes_total box_entries,
      ap (λ (s : State). s.keys) is,
      ap (λ (s : State). s.files) is,
      ap (λ (s : State). s.receipts) is,
    )

-- the box closes at the given second, and all its other settings stay
pub box_closes : (after : State) → CommandStep office (CloseBox (codes "in") 150) after
    → (entries after.boxes ≡ (codes "in", closing 150) ∷ []) × (after.keys ≡ office.keys) × (after.files ≡ files) × (after.receipts ≡ first ∷ [])
box_closes after step =
    let (b, there, is) = box_closed_is office (codes "in") 150 after step in
    let was : settings ≡ b = some_is _ _ (sym (get_of bytes_cmp boxes _ (codes "in") box_entries) ∙ there) in
    let closed : Settings = record b { closes = 150 } in
    let same : closed ≡ closing 150 = ap (λ (x : Settings). record x { closes = 150 }) (sym was) in (
      ap (λ (s : State). entries s.boxes) is ∙ entries_put bytes_cmp boxes (codes "in") closed _ bytes_total box_entries ∙ ap (λ (x : Settings). (codes "in", x) ∷ []) same,
      ap (λ (s : State). s.keys) is,
      ap (λ (s : State). s.files) is,
      ap (λ (s : State). s.receipts) is,
    )

-- ---- files

abbrev other : File
other = record { bytes = codes "hello"; receipt = 2 }

abbrev two_files : FinMap place_cmp File
two_files = insert files (place (codes "b")) other

two_entries : entries two_files ≡ (place (codes "a"), file) ∷ (place (codes "b"), other) ∷ []
two_entries = entries_put place_cmp files (place (codes "b")) other _ place_total file_entries

-- the file is removed; the other file and both receipts stay
pub file_goes : (second : Receipt) (after : State) → CommandStep (record office { files = two_files; receipts = first ∷ second ∷ [] }) (DropFile (place (codes "a"))) after
    → (get after.files (place (codes "a")) ≡ None) × (get after.files (place (codes "b")) ≡ Some other)
    × (after.keys ≡ office.keys) × (after.boxes ≡ boxes) × (after.receipts ≡ first ∷ second ∷ [])
file_goes second after step =
    let is = file_dropped_is (record office { files = two_files; receipts = first ∷ second ∷ [] }) (place (codes "a")) after step in
    let files_are = ap (λ (s : State). s.files) is in (
      ap (λ (m : FinMap place_cmp File). get m (place (codes "a"))) files_are ∙ get-remove place_total two_files (place (codes "a")) (place (codes "a")),
      ap (λ (m : FinMap place_cmp File). get m (place (codes "b"))) files_are ∙ get-remove place_total two_files (place (codes "a")) (place (codes "b"))
          ∙ get_of place_cmp two_files _ (place (codes "b")) two_entries,
      ap (λ (s : State). s.keys) is,
      ap (λ (s : State). s.boxes) is,
      ap (λ (s : State). s.receipts) is,
    )

-- ---- limits and the allowance

-- the key is limited to the named box, and nothing else changes
pub key_is_limited : (after : State) → CommandStep office (LimitKey (codes "bob") (codes "in")) after
    → (after.limits ≡ insert office.limits (record { key = codes "bob"; box = codes "in" }) tt) × (after.allowance ≡ 0)
    × (after.keys ≡ office.keys) × (after.boxes ≡ boxes) × (after.files ≡ files) × (after.receipts ≡ first ∷ [])
key_is_limited after step =
    let is = key_limited_is office (codes "bob") (codes "in") after step in (
      ap (λ (s : State). s.limits) is,
      ap (λ (s : State). s.allowance) is,
      ap (λ (s : State). s.keys) is,
      ap (λ (s : State). s.boxes) is,
      ap (λ (s : State). s.files) is,
      ap (λ (s : State). s.receipts) is,
    )

-- the allowance is the given one, and nothing else changes
pub allowance_comes : (after : State) → CommandStep office (SetAllowance 900) after
    → (after.allowance ≡ 900) × (after.limits ≡ office.limits)
    × (after.keys ≡ office.keys) × (after.boxes ≡ boxes) × (after.files ≡ files) × (after.receipts ≡ first ∷ [])
allowance_comes after step =
    let is = allowance_set_is office 900 after step in (
      ap (λ (s : State). s.allowance) is,
      ap (λ (s : State). s.limits) is,
      ap (λ (s : State). s.keys) is,
      ap (λ (s : State). s.boxes) is,
      ap (λ (s : State). s.files) is,
      ap (λ (s : State). s.receipts) is,
    )

-- ---- the greatest number of receipts: 4,000,000,000

pub four_milliards : 4000000000 ≤ most_receipts
four_milliards = omega arith

pub no_more_than_four_milliards : 4000000001 ≤ most_receipts → ⊥
no_more_than_four_milliards more = omega arith

-- with this many receipts no file can be set; with one receipt fewer, one more file can
pub full : (s : State) (f : NewFile) → length s.receipts ≡ 4000000000 → IsPastFull s (change.SetFile f)
full s f many = omega arith

pub not_full : (s : State) (f : NewFile) → length s.receipts ≡ 3999999999 → IsPastFull s (change.SetFile f) → ⊥
not_full s f many past = omega arith

-- desk commands add no receipt
pub desk_is_never_full : (s : State) (c : row.Command) → IsPastFull s (change.Desk c) → ⊥
desk_is_never_full s c past = past
