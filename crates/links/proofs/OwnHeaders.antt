-- The headers that a sound order signs: their values, their names, and which fields they cover.
use Rattle.std.proofs.Common.{◌≡◌, ℕ, zero, suc, Bool, true, false, List, [], ◌∷◌, ◌++◌, length, map, codes, cond, get_or, reverse, lit<, lit≤, refl, sym, ap, subst, ◌∙◌, arith, All}
use Rattle.std.specs.Prelude.{◌||◌, ◌&&◌, nat_le, not, IsTrue, IsPermutation, Contains, filter}
use Rattle.std.specs.List.{list_all, join_with_byte, AllByRecursion}
use Rattle.std.specs.List.Sorted.{IsSortedBy}
use Rattle.std.specs.Ordering.{is_lt}
use Rattle.std.proofs.lemmas.Bool.{and_from, and_parts, cond-false, false_from_ne_true}
use Rattle.std.proofs.lemmas.Bool.Decides.{nat_tests}
use Rattle.std.proofs.lemmas.List.{length-map, get_or-map, reverse-reverse}
use Rattle.std.proofs.lemmas.Simd.{map-map}
use Rattle.std.proofs.lemmas.List.Elements.{All-nil, All-cons, All-head, All-tail, All-weaker, All-map, All-contains, All-contains_itself, All-from_recursion, recursion_from_All}
use Rattle.std.proofs.lemmas.List.Folds.{list_any_at, list_all-append}
use Rattle.std.proofs.lemmas.List.Sorted.{IsPermutation-reverse, IsPermutation-sym, All-permutation, Contains-permutation, list_any-IsPermutation}
use Rattle.std.proofs.lemmas.Slice.Eq.{bytes_eq-Decides}
use Rattle.sigtext.specs.declared.field.Field.{Field}
use Rattle.sigtext.specs.Bytes.{is_visible, same_bytes, begins_with, bytes_cmp}
use Rattle.sigtext.specs.Fields.{header_of}
use Rattle.sigtext.specs.SignedHeaders.{Header, is_blank, without_leading_blanks, trimmed, lower_case, named, IsSignedValue, AreSignedValues, signed_headers}
use Rattle.sigtext.specs.SignedNames.{IsHeaderName, AreSignedNames}
use Rattle.sigtext.specs.SignedValues.{IsFitValue, is_covered}
use Rattle.sigtext.proofs.Filters.{counted, none_pass, kept}
use Rattle.sigtext.proofs.Keyed.{EachOnce, times, sorted_ascends}
use Rattle.sigtext.proofs.ValuesNamed.{lower_name}
use Rattle.links.specs.Orders.{Terms, IsOwnHeader, AreSound, wanted}
use Rattle.links.specs.declared.orders.LinkFault.TheVariants as fault

-- ---- texts of visible bytes

not_blank : (b : ℕ) → is_visible b ≡ true → is_blank b ≡ false
not_blank b h = grind (arith, nat_tests)

plain_byte : (b : ℕ) → is_visible b ≡ true → (nat_le 0x20 b && nat_le b 0x7E) ≡ true
plain_byte b h = grind (arith, nat_tests)

no_blanks : (text : List ℕ) → IsTrue (list_all is_visible text) → All (λ b. is_blank b ≡ false) text
no_blanks [] h = All-nil (λ b. is_blank b ≡ false)
no_blanks (b ∷ text) h =
    let parts = and_parts (is_visible b) (list_all is_visible text) h in
    All-cons (λ x. is_blank x ≡ false) b text (not_blank b parts.0) (no_blanks text parts.1)

begins_bare : (text : List ℕ) → All (λ b. is_blank b ≡ false) text → without_leading_blanks text ≡ text
begins_bare [] h = refl
begins_bare (b ∷ text) h = cond-false _ _ _ (All-head (λ x. is_blank x ≡ false) b text h)

-- a text without spaces and tabs is trimmed
bare : (text : List ℕ) → All (λ b. is_blank b ≡ false) text → trimmed text ≡ text
unfolding trimmed
bare text h =
    let back = All-permutation (λ b. is_blank b ≡ false) text (reverse text) (IsPermutation-reverse text) h in
    ap (λ (t : List ℕ). reverse (without_leading_blanks (reverse t))) (begins_bare text h)
    ∙ ap reverse (begins_bare (reverse text) back)
    ∙ reverse-reverse text

plain : (text : List ℕ) → IsTrue (list_all is_visible text) → IsTrue (list_all (λ b. nat_le 0x20 b && nat_le b 0x7E) text)
plain [] h = refl
plain (b ∷ text) h =
    let parts = and_parts (is_visible b) (list_all is_visible text) h in
    and_from _ _ (plain_byte b parts.0) (plain text parts.1)

no_space : (a b : List ℕ) → IsTrue (list_all is_visible (a ++ 32 ∷ b)) → ⊥
no_space a b h =
    let parts = and_parts (list_all is_visible a) (list_all is_visible (32 ∷ b)) (sym (list_all-append is_visible a (32 ∷ b)) ∙ h) in
    differ parts.1
  where
    differ : false ≡ true → ⊥
    differ e = cc

visible_fit : (text : List ℕ) → IsTrue (list_all is_visible text) → IsFitValue text
visible_fit text h = record {
  plain = plain text h;
  single = λ a b e. no_space a (32 ∷ b) (subst (λ (t : List ℕ). IsTrue (list_all is_visible t)) e h);
}

-- ---- `host` and the headers of the order

abbrev host_header : List ℕ → Header
host_header host = record { name = codes "host"; value = host }

own : (t : Terms) → AreSound t → All (IsOwnHeader t.headers) t.headers
own t sound = All-from_recursion (IsOwnHeader t.headers) t.headers (sound fault.Headers)

visible : (t : Terms) → AreSound t → IsTrue (list_all is_visible t.host)
visible t sound = (sound fault.Host).each

-- what holds for `host` and for each other header holds for all wanted headers
each_wanted : (P : Header → Type 0) (t : Terms) → AreSound t → P (host_header t.host) → ((h : Header) → IsOwnHeader t.headers h → Contains t.headers h → P h) → All P (wanted t)
each_wanted P t sound host other =
    All-cons P (host_header t.host) t.headers host (λ k d within. other (get_or t.headers k d) (own t sound k d within) (All-contains_itself t.headers k d within))

lower : (headers : List Header) (h : Header) → IsOwnHeader headers h → lower_case h.name ≡ h.name
lower headers h is = lower_name h.name is.form.each

host_form : IsHeaderName (codes "host")
host_form = record { some = lit< tt; short = lit≤ tt; each = refl }

wanted_forms : (t : Terms) → AreSound t → All (λ h. IsHeaderName h.name) (wanted t)
wanted_forms t sound = each_wanted (λ h. IsHeaderName h.name) t sound host_form (λ h is there. is.form)

wanted_lower : (t : Terms) → AreSound t → All (λ h. lower_case h.name ≡ h.name) (wanted t)
wanted_lower t sound = each_wanted (λ h. lower_case h.name ≡ h.name) t sound refl (λ h is there. lower t.headers h is)

-- ---- the value of each header

-- a list of length one that contains an element is that element alone
one_alone : {X : Type 0} (xs : List X) (p : X) → length xs ≡ 1 → Contains xs p → xs ≡ p ∷ []
one_alone [] p long there = absurd (omega (arith, long))
one_alone (x ∷ []) p long (zero, within, is) = ap (λ q. q ∷ []) is
one_alone (x ∷ []) p long (suc k, within, is) = absurd (omega (arith, within))
one_alone (x ∷ y ∷ xs) p long there = absurd (omega (arith, long))

other_name : (headers : List Header) (h : Header) → IsOwnHeader headers h → same_bytes (lower_case h.name) (codes "host") ≡ false
other_name headers h is = false_from_ne_true _ (λ e. is.other (sym (lower headers h is) ∙ (bytes_eq-Decides (lower_case h.name) (codes "host")).0 e))

host_named : (host : List ℕ) (headers : List Header) → All (IsOwnHeader headers) headers → named (codes "host") (host_header host ∷ headers) ≡ host_header host ∷ []
host_named host headers each =
    ap (λ (hs : List Header). host_header host ∷ hs)
    (none_pass (λ h. same_bytes (lower_case h.name) (codes "host")) headers (All-weaker (IsOwnHeader headers) (λ h. same_bytes (lower_case h.name) (codes "host") ≡ false) (other_name headers) headers each))

own_named : (host : List ℕ) (headers : List Header) (h : Header) → IsOwnHeader headers h → Contains headers h → named h.name (host_header host ∷ headers) ≡ h ∷ []
own_named host headers h is there =
    let apart : same_bytes (codes "host") h.name ≡ false = false_from_ne_true _ (λ e. is.other (sym ((bytes_eq-Decides (codes "host") h.name).0 e))) in
    let passes = (bytes_eq-Decides (lower_case h.name) h.name).1 (lower headers h is) in
    cond-false _ _ _ apart ∙ one_alone (named h.name headers) h is.once (kept (λ g. same_bytes (lower_case g.name) h.name) headers h passes there)

-- among these headers, each has the value of its name
pub own_given : (t : Terms) → AreSound t → AllByRecursion (λ h. IsSignedValue (wanted t) h.name h.value) (wanted t)
own_given t sound =
    recursion_from_All (λ h. IsSignedValue (wanted t) h.name h.value) (wanted t)
    (each_wanted (λ h. IsSignedValue (wanted t) h.name h.value) t sound
    (host_header t.host, host_named t.host t.headers (own t sound), sym (bare t.host (no_blanks t.host (visible t sound))))
    (λ h is there. (h, own_named t.host t.headers h is there, sym is.bare)))

pub wanted_fit : (t : Terms) → AreSound t → AllByRecursion (λ h. IsFitValue h.value) (wanted t)
wanted_fit t sound =
    recursion_from_All (λ h. IsFitValue h.value) (wanted t)
    (each_wanted (λ h. IsFitValue h.value) t sound (visible_fit t.host (visible t sound)) (λ h is there. is.fit))

-- the signed values for the names of some headers are the values of these headers
pub values_given : (headers : List Header) (hs : List Header) → AllByRecursion (λ h. IsSignedValue headers h.name h.value) hs → AreSignedValues headers (map (λ h. h.name) hs) hs
values_given headers [] given = tt
values_given headers (h ∷ hs) given = (refl, given.0, values_given headers hs given.1)

-- ---- which fields are covered

or_right : (a b : Bool) → b ≡ true → (a || b) ≡ true
or_right true b h = refl
or_right false b h = h

covered_by : (signed : List Header) (h : Header) → lower_case h.name ≡ h.name → Contains signed h → is_covered signed h ≡ true
covered_by signed h low there =
    or_right (not (begins_with (lower_case h.name) (codes "x-amz-"))) _
    (list_any_at (λ s. same_bytes s.name (lower_case h.name)) signed there.0 h there.1
    ((bytes_eq-Decides (get_or signed there.0 h).name (lower_case h.name)).1 (ap (λ (s : Header). s.name) there.2 ∙ sym low)))

all_covered : (signed headers : List Header) → All (λ h. is_covered signed h ≡ true) headers → IsTrue (list_all (is_covered signed) headers)
all_covered signed [] each = refl
all_covered signed (h ∷ headers) each =
    and_from _ _ (All-head (λ g. is_covered signed g ≡ true) h headers each) (all_covered signed headers (All-tail (λ g. is_covered signed g ≡ true) h headers each))

-- the headers cover themselves
pub own_covered : (t : Terms) → AreSound t → IsTrue (list_all (is_covered (wanted t)) (wanted t))
own_covered t sound =
    all_covered (wanted t) (wanted t) (λ k d within. covered_by (wanted t) (get_or (wanted t) k d) (wanted_lower t sound k d within) (All-contains_itself (wanted t) k d within))

-- a rearrangement covers the same fields
pub cover_moved : (xs ys : List Header) (headers : List Header) → IsPermutation xs ys → IsTrue (list_all (is_covered xs) headers) → IsTrue (list_all (is_covered ys) headers)
cover_moved xs ys [] moved h = refl
cover_moved xs ys (g ∷ headers) moved h =
    let parts = and_parts (is_covered xs g) (list_all (is_covered xs) headers) h in
    let same = list_any-IsPermutation (λ s. same_bytes s.name (lower_case g.name)) xs ys moved in
    let amz = begins_with (lower_case g.name) (codes "x-amz-") in
    and_from _ _ (subst (λ (b : Bool). (not amz || b) ≡ true) same parts.0) (cover_moved xs ys headers moved parts.1)

-- ---- the names in order

-- tests that agree on each element keep the same elements
agree : {X : Type 0} (p q : X → Bool) (xs : List X) → All (λ x. p x ≡ q x) xs → filter p xs ≡ filter q xs
agree p q [] h = refl
agree {X} p q (x ∷ xs) h =
    let first = All-head (λ (y : X). p y ≡ q y) x xs h in
    let rest = agree p q xs (All-tail (λ (y : X). p y ≡ q y) x xs h) in
    cc

count_map : {X Y : Type 0} (f : X → Y) (test : Y → Bool) (xs : List X) → length (filter test (map f xs)) ≡ length (filter (λ x. test (f x)) xs)
count_map f test [] = refl
count_map f test (x ∷ xs) = one_more (test (f x)) (f x) x (filter test (map f xs)) (filter (λ y. test (f y)) xs) (count_map f test xs)
  where
    one_more : {X Y : Type 0} (b : Bool) (y : Y) (x : X) (ys : List Y) (xs : List X) → length ys ≡ length xs → length (cond b (y ∷ ys) ys) ≡ length (cond b (x ∷ xs) xs)
    one_more true y x ys xs e = omega (arith, e)
    one_more false y x ys xs e = e

-- each name belongs to exactly one header
once_wanted : (t : Terms) → AreSound t → All (λ h. times (λ g. g.name) h.name (wanted t) ≡ 1) (wanted t)
once_wanted t sound k d within =
    let h = get_or (wanted t) k d in
    let given = All-from_recursion (λ g. IsSignedValue (wanted t) g.name g.value) (wanted t) (own_given t sound) k d within in
    let same = agree (λ g. same_bytes (lower_case g.name) h.name) (λ g. same_bytes g.name h.name) (wanted t)
    (All-weaker (λ g. lower_case g.name ≡ g.name) (λ g. same_bytes (lower_case g.name) h.name ≡ same_bytes g.name h.name) (λ g low. ap (λ (n : List ℕ). same_bytes n h.name) low) (wanted t) (wanted_lower t sound)) in
    ap (λ (hs : List Header). length hs) (sym same ∙ given.1)

map_contains : {X Y : Type 0} (f : X → Y) (xs : List X) (x : X) → Contains xs x → Contains (map f xs) (f x)
map_contains f xs x (k, within, is) = (k, omega (arith, within, length-map xs f), get_or-map f xs k x (f x) within ∙ ap f is)

-- this also holds after a rearrangement
once_moved : (hs : List Header) (fields : List Field) → All (λ h. times (λ g. g.name) h.name hs ≡ 1) hs → IsPermutation hs (map header_of fields) → EachOnce (λ (f : Field). f.name.now) fields
once_moved hs fields once moved k d within =
    let f = get_or fields k d in
    let there : Contains (map header_of fields) (header_of f) = map_contains header_of fields f (All-contains_itself fields k d within) in
    let before = Contains-permutation (map header_of fields) hs (header_of f) (IsPermutation-sym hs (map header_of fields) moved) there in
    let one = All-contains (λ (h : Header). times (λ (g : Header). g.name) h.name hs ≡ 1) hs (header_of f) once before in
    let same = counted (λ (h : Header). same_bytes h.name f.name.now) hs (map header_of fields) moved in
    let fewer = count_map header_of (λ (h : Header). same_bytes h.name f.name.now) fields in
    omega (arith, one, same, fewer)

-- the sorted names of these headers are signed names
pub names_signed : (t : Terms) → AreSound t → (fields : List Field) → IsPermutation (wanted t) (map header_of fields)
    → IsSortedBy (λ a b. is_lt (bytes_cmp a.name.now b.name.now)) fields → AreSignedNames (signed_headers (map header_of fields)) (map (λ f. f.name.now) fields)
names_signed t sound fields moved sorted =
    let name : Header → List ℕ = λ h. h.name in
    let are : map name (map header_of fields) ≡ map (λ (f : Field). f.name.now) fields = map-map name header_of fields in
    let there = map_contains name (map header_of fields) (host_header t.host) (Contains-permutation (wanted t) (map header_of fields) (host_header t.host) moved (zero, omega arith, refl)) in
    record {
      joined = ap (λ (names : List (List ℕ)). join_with_byte 59 names) are;
      forms = recursion_from_All IsHeaderName (map (λ (f : Field). f.name.now) fields)
          (subst (All IsHeaderName) are (All-map IsHeaderName name (map header_of fields) (All-permutation (λ h. IsHeaderName h.name) (wanted t) (map header_of fields) moved (wanted_forms t sound))));
      ascend = sorted_ascends (λ (f : Field). f.name.now) fields sorted (once_moved (wanted t) fields (once_wanted t sound) moved);
      host = subst (λ (names : List (List ℕ)). Contains names (codes "host")) are there;
    }
