-- What uploads, fetches and desk commands do, and which commands are possible, on small states.
use Rattle.std.proofs.Common.{◌≡◌, ◌≢◌, ◌+◌, ℕ, List, [], ◌∷◌, get_or, codes, Bool, Option, Some, None, true, false, arith, refl, sym, ap, subst, ◌∙◌}
use Rattle.std.specs.Prelude.{pos, IsSomeAnd, is_some, slice_get, unwrap_or}
use Rattle.std.specs.FinMap.{FinMap, empty, insert, get, get-empty, entries, find}
use Rattle.sigtext.specs.Bytes.{bytes_cmp}
use Rattle.sigv4.specs.Hmac.{sha256}
use Rattle.boxes.specs.declared.rows.Role.{Role}
use Rattle.boxes.specs.declared.rows.Role.TheVariants.{Clerk, Link}
use Rattle.boxes.specs.declared.rows.Mode.TheVariants.{Keep}
use Rattle.boxes.specs.State.{AnyName, Key, Settings, Place, place_cmp, File, Receipt, State}
use Rattle.boxes.specs.Rules.{Upload}
use Rattle.boxes.specs.Steps.{StepReply, Kept, Found, HasReceipt, UploadStep, again, taken, FetchStep, found, AddKey, RevokeKey, AddBox, CloseBox, DropFile, CanRevoke, IsPossible}
use Rattle.boxes.proofs.Lookups.{bytes_total, place_total, no_entries, entries_put, get_of, got, some_none}

true_false : true ≡ false → ⊥
true_false e = cc

abbrev pub place : List ℕ → Place
place name = record { box = codes "in"; name = name }

abbrev pub first : Receipt
first = record { box = codes "in"; name = codes "a"; size = 3; digest = sha256 (codes "abc"); moment = 100; key = codes "ann" }

abbrev pub file : File
file = record { bytes = codes "abc"; receipt = 1 }

abbrev pub files : FinMap place_cmp File
files = insert empty (place (codes "a")) file

pub file_entries : entries files ≡ (place (codes "a"), file) ∷ []
file_entries = entries_put place_cmp empty (place (codes "a")) file [] place_total (no_entries place_cmp)

-- open from second 100 until this second, all day and every day
abbrev pub closing : ℕ → Settings
closing second = record {
  opens = 100;
  closes = second;
  days = true ∷ true ∷ true ∷ true ∷ true ∷ true ∷ true ∷ [];
  from_minute = 0;
  to_minute = 1440;
  quota = 10;
  max_files = 2;
  mode = Keep;
  rule = AnyName;
}

abbrev pub settings : Settings
settings = closing 200

abbrev pub boxes : FinMap bytes_cmp Settings
boxes = insert empty (codes "in") settings

pub box_entries : entries boxes ≡ (codes "in", settings) ∷ []
box_entries = entries_put bytes_cmp empty (codes "in") settings [] bytes_total (no_entries bytes_cmp)

-- an office with these keys and a box with one file
abbrev pub with_keys : FinMap bytes_cmp Key → State
with_keys keys = record { offset = pos 0; allowance = 0; keys = keys; boxes = boxes; files = files; receipts = first ∷ []; limits = empty }

abbrev pub office : State
office = with_keys empty

-- ---- uploads

abbrev upload : List ℕ → List ℕ → Upload
upload name bytes = record { place = place name; bytes = bytes; now = 150; key = codes "bob" }

-- the second receipt: its size is the length, and its moment the upload's
abbrev second : Receipt
second = record { box = codes "in"; name = codes "b"; size = 5; digest = sha256 (codes "hello"); moment = 150; key = codes "bob" }

pub new_file : (reply : StepReply) (after : State) → UploadStep office (upload (codes "b") (codes "hello")) reply after
    → (reply ≡ Kept 2 second) × (after.receipts ≡ first ∷ second ∷ []) × (after.files ≡ insert files (place (codes "b")) (record { bytes = codes "hello"; receipt = 2 }))
new_file _ _ (again f r there same listed) = absurd (some_none f (sym there ∙ get_of place_cmp files _ (place (codes "b")) file_entries))
new_file _ _ (taken new) = (refl, refl, refl)

some_is : {X : Type 0} (x y : X) → Some x ≡ Some y → x ≡ y
some_is x y e = ap (λ o. unwrap_or o x) e

-- the receipt with number 1 is the first
number_one : (n : ℕ) (r : Receipt) → n ≡ 1 → HasReceipt office n r → r ≡ first
number_one n r one has =
    let counted = has.counted in
    let at : has.place ≡ 0 = omega arith in
    sym (some_is first r (sym (ap (slice_get (first ∷ [])) at) ∙ has.listed))

file_there : get files (place (codes "a")) ≡ Some file
file_there = get_of place_cmp files _ (place (codes "a")) file_entries

-- no receipt has number 0 or 2
pub no_number_0 : (r : Receipt) → HasReceipt office 0 r → ⊥
no_number_0 r has = let counted : 0 ≡ has.place + 1 = has.counted in omega arith

pub no_number_2 : (r : Receipt) → HasReceipt office 2 r → ⊥
no_number_2 r has =
    let counted : 2 ≡ has.place + 1 = has.counted in
    let at : has.place ≡ 1 = omega arith in
    some_none r (sym has.listed ∙ ap (slice_get (first ∷ [])) at)

-- the bytes are already stored: the reply is the first receipt, whoever uploads them and when
pub repeated : (reply : StepReply) (after : State) → UploadStep office (upload (codes "a") (codes "abc")) reply after → (reply ≡ Kept 1 first) × (after ≡ office)
repeated _ _ (again f r there same listed) =
    let is : f ≡ file = some_is f file (sym there ∙ file_there) in
    let number : f.receipt ≡ 1 = ap (λ (x : File). x.receipt) is in
    let receipt : r ≡ first = number_one f.receipt r number listed in
    (ap (λ (p : ℕ × Receipt). Kept p.0 p.1) (λ i. (number i, receipt i)), refl)
repeated _ _ (taken new) = absurd (new (subst (λ (o : Option File). IsSomeAnd o (λ f. f.bytes ≡ codes "abc")) (sym file_there) refl))

-- ---- fetches

pub fetched : (reply : StepReply) (after : State) → FetchStep office (place (codes "a")) reply after → (reply ≡ Found 1 first (codes "abc")) × (after ≡ office)
fetched _ _ (found f r there listed) =
    let is : f ≡ file = some_is f file (sym there ∙ file_there) in
    let number : f.receipt ≡ 1 = ap (λ (x : File). x.receipt) is in
    let receipt : r ≡ first = number_one f.receipt r number listed in
    let bytes : f.bytes ≡ codes "abc" = ap (λ (x : File). x.bytes) is in
    (ap (λ (p : ℕ × Receipt × List ℕ). Found p.0 p.1 p.2) (λ i. (number i, receipt i, bytes i)), refl)

-- ---- keys: a clerk `ann`, alone or with another clerk, a revoked clerk, or a link

abbrev pub key : Role → Bool → Key
key role revoked = record { role = role; secret = codes "secret"; revoked = revoked }

abbrev pub ann : FinMap bytes_cmp Key
ann = insert empty (codes "ann") (key Clerk false)

abbrev pub ann_and : Key → FinMap bytes_cmp Key
ann_and other = insert ann (codes "bob") other

pub ann_entries : entries ann ≡ (codes "ann", key Clerk false) ∷ []
ann_entries = entries_put bytes_cmp empty (codes "ann") (key Clerk false) [] bytes_total (no_entries bytes_cmp)

pub both_entries : (other : Key) → entries (ann_and other) ≡ (codes "ann", key Clerk false) ∷ (codes "bob", other) ∷ []
both_entries other = entries_put bytes_cmp ann (codes "bob") other _ bytes_total ann_entries

in_ann : (q : List ℕ) → get ann q ≡ find bytes_cmp q ((codes "ann", key Clerk false) ∷ [])
in_ann q = get_of bytes_cmp ann _ q ann_entries

in_both : (other : Key) (q : List ℕ) → get (ann_and other) q ≡ find bytes_cmp q ((codes "ann", key Clerk false) ∷ (codes "bob", other) ∷ [])
in_both other q = get_of bytes_cmp (ann_and other) _ q (both_entries other)

-- what is required of a key, whether or not it is found
asked : (P : Key → Type 0) (o p : Option Key) → o ≡ p → IsSomeAnd o P → IsSomeAnd p P
asked P o p e = subst (λ (x : Option Key). IsSomeAnd x P) e

not_link : Link ≡ Clerk → ⊥
not_link e = cc

ann_alone : (q : List ℕ) (k : Key) → q ≢ codes "ann" → get ann q ≡ Some k → ⊥
ann_alone q k other there =
    got empty (codes "ann") q (key Clerk false) k ⊥ there (λ same v. other same) (λ none. some_none k (sym none ∙ get-empty bytes_cmp q))

-- the only clerk cannot be revoked
pub last_clerk : IsPossible (with_keys ann) (RevokeKey (codes "ann")) → ⊥
last_clerk possible =
    let can = asked (CanRevoke (with_keys ann) (codes "ann")) (get ann (codes "ann")) (Some (key Clerk false)) (in_ann (codes "ann")) possible in
    let h = can.1 refl in
    ann_alone h.other h.key h.another h.there

-- nor can she if the other key is a revoked clerk's or a link's
no_help : (other : Key) → (other.role ≡ Clerk → other.revoked ≡ false → ⊥) → IsPossible (with_keys (ann_and other)) (RevokeKey (codes "ann")) → ⊥
no_help other idle possible =
    let can = asked (CanRevoke (with_keys (ann_and other)) (codes "ann")) (get (ann_and other) (codes "ann")) (Some (key Clerk false)) (in_both other (codes "ann")) possible in
    let h = can.1 refl in
    got ann (codes "bob") h.other other h.key ⊥ h.there
    (λ same v. idle (ap (λ (k : Key). k.role) v ∙ h.clerk) (ap (λ (k : Key). k.revoked) v ∙ h.unrevoked))
    (λ there. ann_alone h.other h.key h.another there)

pub beside_a_revoked_clerk : IsPossible (with_keys (ann_and (key Clerk true))) (RevokeKey (codes "ann")) → ⊥
beside_a_revoked_clerk = no_help (key Clerk true) (λ role revoked. true_false revoked)

pub beside_a_link : IsPossible (with_keys (ann_and (key Link false))) (RevokeKey (codes "ann")) → ⊥
beside_a_link = no_help (key Link false) (λ role revoked. not_link role)

-- she can be revoked if there is another clerk
pub beside_a_clerk : IsPossible (with_keys (ann_and (key Clerk false))) (RevokeKey (codes "ann"))
beside_a_clerk =
    asked (CanRevoke (with_keys (ann_and (key Clerk false))) (codes "ann")) (Some (key Clerk false)) (get (ann_and (key Clerk false)) (codes "ann")) (sym (in_both (key Clerk false) (codes "ann")))
    (refl, λ clerk. record { other = codes "bob"; key = key Clerk false; another = apart; there = in_both (key Clerk false) (codes "bob"); clerk = refl; unrevoked = refl })
  where
    apart : codes "bob" ≡ codes "ann" → ⊥
    apart e = let byte : ◌≡◌ {A = ℕ} 98 97 = ap (λ (t : List ℕ). get_or t 0 0) e in omega arith

-- a link can be revoked; a key that does not exist or is already revoked cannot
pub a_link : IsPossible (with_keys (ann_and (key Link false))) (RevokeKey (codes "bob"))
a_link =
    asked (CanRevoke (with_keys (ann_and (key Link false))) (codes "bob")) (Some (key Link false)) (get (ann_and (key Link false)) (codes "bob")) (sym (in_both (key Link false) (codes "bob")))
    (refl, λ clerk. absurd (not_link clerk))

pub no_key : IsPossible (with_keys ann) (RevokeKey (codes "bob")) → ⊥
no_key = asked (CanRevoke (with_keys ann) (codes "bob")) (get ann (codes "bob")) None (in_ann (codes "bob"))

pub a_revoked_key : IsPossible (with_keys (ann_and (key Link true))) (RevokeKey (codes "bob")) → ⊥
a_revoked_key possible =
    let can = asked (CanRevoke (with_keys (ann_and (key Link true))) (codes "bob")) (get (ann_and (key Link true)) (codes "bob")) (Some (key Link true)) (in_both (key Link true) (codes "bob")) possible in
    true_false can.0

-- an id can be added if no key, revoked or not, has it
pub a_new_id : (role : Role) (secret : List ℕ) → IsPossible (with_keys ann) (AddKey (codes "bob") role secret)
a_new_id role secret = ap is_some (in_ann (codes "bob"))

pub an_id_that_stands : (role : Role) (secret : List ℕ) → IsPossible (with_keys ann) (AddKey (codes "ann") role secret) → ⊥
an_id_that_stands role secret possible = true_false (sym (ap is_some (in_ann (codes "ann"))) ∙ possible)

pub an_id_that_was_revoked : (role : Role) (secret : List ℕ) → IsPossible (with_keys (ann_and (key Link true))) (AddKey (codes "bob") role secret) → ⊥
an_id_that_was_revoked role secret possible = true_false (sym (ap is_some (in_both (key Link true) (codes "bob"))) ∙ possible)

-- ---- boxes and files

in_boxes : (q : List ℕ) → get boxes q ≡ find bytes_cmp q ((codes "in", settings) ∷ [])
in_boxes q = get_of bytes_cmp boxes _ q box_entries

pub a_new_box : (b : Settings) → IsPossible office (AddBox (codes "out") b)
a_new_box b = ap is_some (in_boxes (codes "out"))

pub a_box_that_stands : (b : Settings) → IsPossible office (AddBox (codes "in") b) → ⊥
a_box_that_stands b possible = true_false (sym (ap is_some (in_boxes (codes "in"))) ∙ possible)

-- a box can be closed at any moment, also a past one
pub close_what_stands : (moment : ℕ) → IsPossible office (CloseBox (codes "in") moment)
close_what_stands moment = ap is_some (in_boxes (codes "in"))

pub close_no_box : (moment : ℕ) → IsPossible office (CloseBox (codes "out") moment) → ⊥
close_no_box moment possible = true_false (sym possible ∙ ap is_some (in_boxes (codes "out")))

pub drop_what_stands : IsPossible office (DropFile (place (codes "a")))
drop_what_stands = ap is_some file_there

pub drop_no_file : IsPossible office (DropFile (place (codes "b"))) → ⊥
drop_no_file possible = true_false (sym possible ∙ ap is_some (get_of place_cmp files _ (place (codes "b")) file_entries))
