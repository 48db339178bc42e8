-- The parameters with one name, if the encoded names are in order.
use Rattle.std.proofs.Common.{◌≡◌, ℕ, zero, suc, ◌<◌, Bool, true, false, cond, List, [], ◌∷◌, length, get_or, refl, sym, ap, subst, ◌∙◌, ⊎_elim, arith, All, map}
use Rattle.std.specs.Prelude.{IsPermutation, Contains, ◌&&◌}
use Rattle.std.specs.Ordering.{is_lt}
use Rattle.std.specs.declared.cmp.Ordering.TheVariants.{Less}
use Rattle.std.proofs.lemmas.Bool.{cond-true, cond-false, cases_Bool, false_from_ne_true}
use Rattle.std.proofs.lemmas.List.{get_or-map, length-map}
use Rattle.std.proofs.lemmas.List.Elements.{All-head, All-tail, All-weaker, All-contains, All-contains_itself, All-from_recursion, All-map, recursion_from_All}
use Rattle.std.proofs.lemmas.List.Sorted.{IsPermutation-sym, Contains-permutation}
use Rattle.std.proofs.lemmas.Slice.Eq.{bytes_eq-Decides}
use Rattle.percent_encoding.specs.Percent.{percent_decode}
use Rattle.sigtext.specs.declared.encode.Slash.TheVariants.{Encoded}
use Rattle.sigtext.specs.declared.target.RawParam.{RawParam}
use Rattle.sigtext.specs.declared.params.Params.{Params}
use Rattle.sigtext.specs.Bytes.{same_bytes, bytes_cmp}
use Rattle.sigtext.specs.UriEncode.{uri_encoded}
use Rattle.sigtext.specs.Spelling.{Spells}
use Rattle.sigtext.specs.Target.{Param}
use Rattle.sigtext.specs.CanonicalQuery.{ascends, Ascend}
use Rattle.sigtext.specs.Params.{params_named, StandOnce}
use Rattle.sigtext.specs.Signing.{SpellRawParams, HoldsParams}
use Rattle.sigtext.proofs.Ascending.{ascends-head, ascends-tail, first_or_later, never_below_itself}
use Rattle.sigtext.proofs.EncodedOrder.{same_bytes_from, spelled_small}
use Rattle.sigtext.proofs.Filters.{later, counted, none_pass, moved_one, moved_none}
use Rattle.sigtext.proofs.Keyed.{equal_texts}
use Rattle.sigtext.specs.Decoded.{decoded_param}
use Rattle.sigtext.proofs.OrderedParams.{encoded_name, SpellsItsDecoding, NeverFall, are_decoded, each_spells, moved_spellings, rearranged}

-- ---- names

named : (name : List ℕ) (p : Param) → p.name ≡ name → same_bytes p.name name ≡ true
named name p e = (bytes_eq-Decides p.name name).1 e

not_named : (name : List ℕ) (p : Param) → (p.name ≡ name → ⊥) → same_bytes p.name name ≡ false
not_named name p other = false_from_ne_true (same_bytes p.name name) (λ e. other ((bytes_eq-Decides p.name name).0 e))

-- if the encoded names differ, so do the names
other_name : (x y : Param) → bytes_cmp (uri_encoded Encoded x.name) (uri_encoded Encoded y.name) ≡ Less → x.name ≡ y.name → ⊥
other_name x y less same =
    never_below_itself (uri_encoded Encoded x.name) (subst (λ (n : List ℕ). bytes_cmp (uri_encoded Encoded x.name) (uri_encoded Encoded n) ≡ Less) (sym same) less)

abbrev param_text : Param → List ℕ
param_text p = uri_encoded Encoded p.name

-- if the encoded names ascend strictly, a parameter is the only one with its name
stands_alone : (params : List Param) (p : Param) → Ascend params → Contains params p → params_named p.name params ≡ p ∷ []
stands_alone [] p up c = absurd (omega (arith, c.1))
stands_alone (x ∷ params) p up c =
    let above = ascends-head param_text x params up in
    ⊎_elim
    (λ here.
    let mine : same_bytes x.name p.name ≡ true = named p.name x (ap (λ (q : Param). q.name) here) in
    let others = All-weaker (λ q. bytes_cmp (param_text x) (param_text q) ≡ Less) (λ q. same_bytes q.name p.name ≡ false)
    (λ q less. not_named p.name q (λ same. other_name x q less (ap (λ (r : Param). r.name) here ∙ sym same))) params above in
    cond-true _ _ _ mine ∙ ap (λ (ps : List Param). x ∷ ps) (none_pass (λ q. same_bytes q.name p.name) params others) ∙ ap (λ (q : Param). q ∷ []) here)
    (λ more.
    let less = All-contains (λ q. bytes_cmp (param_text x) (param_text q) ≡ Less) params p above more in
    cond-false _ _ _ (not_named p.name x (other_name x p less)) ∙ stands_alone params p (ascends-tail param_text x params up) more)
    (first_or_later x params p c)

map_contains : (raws : List RawParam) (raw : RawParam) → Contains raws raw → Contains (map decoded_param raws) (decoded_param raw)
map_contains raws raw (k, within, is) = (
  k,
  omega (arith, within, length-map raws decoded_param),
  get_or-map decoded_param raws k raw (decoded_param raw) within ∙ ap decoded_param is,
)

pub found : (sorted : Params) (params : List Param) (raw : RawParam) (name : List ℕ) → HoldsParams sorted params → Contains sorted.items.items raw → percent_decode raw.name.now ≡ name
    → (value : List ℕ) × Spells (38 ∷ []) raw.value.now value × (params_named name params ≡ record { name = name; value = value } ∷ [])
found sorted params raw name h there is =
    let value = percent_decode raw.value.now in
    let spells = All-contains SpellsItsDecoding sorted.items.items raw (each_spells sorted.items.items h.ordered h.spelled) there in
    let among = subst (λ (ps : List Param). Contains ps (decoded_param raw)) (are_decoded sorted.items.items h.ordered h.spelled) (map_contains sorted.items.items raw there) in
    let one = moved_one (λ q. same_bytes q.name (percent_decode raw.name.now)) params h.ordered (decoded_param raw) h.rearranged (stands_alone h.ordered (decoded_param raw) h.ascend among) in
    (value, spells.value_spelled, subst (λ (n : List ℕ). params_named n params ≡ record { name = n; value = value } ∷ []) is one)

pub absent : (sorted : Params) (params : List Param) (name : List ℕ) → HoldsParams sorted params → All (λ (raw : RawParam). percent_decode raw.name.now ≡ name → ⊥) sorted.items.items
    → params_named name params ≡ []
absent sorted params name h none =
    let each = All-weaker (λ (raw : RawParam). percent_decode raw.name.now ≡ name → ⊥) (λ (raw : RawParam). same_bytes (decoded_param raw).name name ≡ false) (λ raw other. not_named name (decoded_param raw) other) sorted.items.items none in
    let ordered = subst (All (λ (p : Param). same_bytes p.name name ≡ false)) (are_decoded sorted.items.items h.ordered h.spelled) (All-map (λ (p : Param). same_bytes p.name name ≡ false) decoded_param sorted.items.items each) in
    moved_none (λ q. same_bytes q.name name) params h.ordered h.rearranged (none_pass (λ q. same_bytes q.name name) h.ordered ordered)

-- ---- names that stand twice

-- one of the raw names and values has a decoded name that occurs twice
record IsDoubled (raws : List RawParam) (one : RawParam) : Type 0 where
  there : Contains raws one
  twice : 1 < length (params_named (percent_decode one.name.now) (map decoded_param raws))

same_name : (x y : RawParam) → SpellsItsDecoding x → SpellsItsDecoding y → is_lt (bytes_cmp (encoded_name x) (encoded_name y)) ≡ false → is_lt (bytes_cmp (encoded_name y) (encoded_name x)) ≡ false
    → percent_decode x.name.now ≡ percent_decode y.name.now
same_name x y s t h k =
    let equal = equal_texts (encoded_name x) (encoded_name y) h k in
    same_bytes_from _ _ (spelled_small (38 ∷ 61 ∷ []) x.name.now _ s.name_spelled) (spelled_small (38 ∷ 61 ∷ []) y.name.now _ t.name_spelled) equal

doubled_here : (x y : RawParam) (raws : List RawParam) → percent_decode x.name.now ≡ percent_decode y.name.now → IsDoubled (x ∷ y ∷ raws) x
doubled_here x y raws same =
    let name = percent_decode x.name.now in
    let first = named name (decoded_param x) refl in
    let second = named name (decoded_param y) (sym same) in
    let rest = map decoded_param raws in
    let both = cond-true _ (decoded_param x ∷ params_named name (decoded_param y ∷ rest)) (params_named name (decoded_param y ∷ rest)) first
    ∙ ap (λ (ps : List Param). decoded_param x ∷ ps) (cond-true _ (decoded_param y ∷ params_named name rest) (params_named name rest) second) in
    record { there = (zero, omega arith, refl); twice = omega (arith, ap (λ (ps : List Param). length ps) both) }

doubled_later : (x : RawParam) (raws : List RawParam) (one : RawParam) → IsDoubled raws one → IsDoubled (x ∷ raws) one
doubled_later x raws one d =
    let name = percent_decode one.name.now in
    record { there = later x raws one d.there; twice = grown (same_bytes (decoded_param x).name name) (decoded_param x) (params_named name (map decoded_param raws)) d.twice }
  where
    grown : (t : Bool) (p : Param) (ps : List Param) → 1 < length ps → 1 < length (cond t (p ∷ ps) ps)
    grown true p ps h = omega (arith, h)
    grown false p ps h = h

doubled : (raws : List RawParam) → All SpellsItsDecoding raws → NeverFall raws → ascends (map encoded_name raws) ≡ false → (one : RawParam) × IsDoubled raws one
doubled [] s up h = absurd cc
doubled (x ∷ []) s up h = absurd cc
doubled (x ∷ y ∷ raws) s up h =
    ⊎_elim
    (λ less.
    let others = ap (λ (b : Bool). b && ascends (map encoded_name (y ∷ raws))) (sym less) ∙ h in
    let d = doubled (y ∷ raws) (All-tail SpellsItsDecoding x (y ∷ raws) s) (λ k d within. up (suc k) d (omega (arith, within))) others in
    (d.0, doubled_later x (y ∷ raws) d.0 d.1))
    (λ more.
    let back = up zero x (omega arith) in
    (x, doubled_here x y raws (same_name x y (All-head SpellsItsDecoding x (y ∷ raws) s) (All-head SpellsItsDecoding y raws (All-tail SpellsItsDecoding x (y ∷ raws) s)) more back)))
    (cases_Bool (is_lt (bytes_cmp (encoded_name x) (encoded_name y))))

pub stands_twice : (raws sorted : List RawParam) (params : List Param) → SpellRawParams raws params → IsPermutation raws sorted → NeverFall sorted
    → false ≡ ascends (map encoded_name sorted) → StandOnce params → ⊥
stands_twice raws sorted params s moved up h once =
    let d = doubled sorted (moved_spellings raws sorted params s moved) up (sym h) in
    let p = decoded_param d.0 in
    let place = rearranged raws sorted params s moved in
    let ordered = map decoded_param sorted in
    let there = Contains-permutation ordered params p (IsPermutation-sym params ordered place) (map_contains sorted d.0 d.1.there) in
    let one = All-contains (λ (q : Param). length (params_named q.name params) ≡ 1) params p (All-from_recursion (λ (q : Param). length (params_named q.name params) ≡ 1) params once) there in
    omega (arith, d.1.twice, one, counted (λ (q : Param). same_bytes q.name p.name) params ordered place)

-- parameters in strict order are distinct
pub stand_once : (sorted : Params) (params : List Param) → HoldsParams sorted params → StandOnce params
stand_once sorted params h =
    recursion_from_All (λ (q : Param). length (params_named q.name params) ≡ 1) params (λ k d within. once (get_or params k d) (All-contains_itself params k d within))
  where
    once : (p : Param) → Contains params p → length (params_named p.name params) ≡ 1
    once p there =
        ap (λ (ps : List Param). length ps)
        (moved_one (λ q. same_bytes q.name p.name) params h.ordered p h.rearranged (stands_alone h.ordered p h.ascend (Contains-permutation params h.ordered p h.rearranged there)))
