-- The parameters that raw names and values spell, and consequences of the order of their encoded names.
use Rattle.std.proofs.Common.{◌≡◌, ℕ, zero, suc, ◌+◌, ◌<◌, Bool, true, false, List, [], ◌∷◌, length, get_or, refl, sym, ap, subst, ◌∙◌, arith, All, map}
use Rattle.std.specs.Prelude.{IsPermutation}
use Rattle.std.specs.Iterator.{Drains}
use Rattle.std.specs.List.{IsAllAdjacentAnswer}
use Rattle.std.specs.List.Sorted.{IsSortedBy}
use Rattle.std.specs.Ordering.{is_lt}
use Rattle.std.proofs.lemmas.Bool.{and_from, and_left, and_right}
use Rattle.std.proofs.lemmas.Simd.{map-map}
use Rattle.std.proofs.lemmas.List.Elements.{All-nil, All-cons, All-head, All-tail}
use Rattle.std.proofs.lemmas.List.Sorted.{IsPermutation-map, All-permutation}
use Rattle.percent_encoding.specs.Percent.{percent_decode}
use Rattle.sigtext.specs.Decoded.{decoded_param}
use Rattle.sigtext.specs.declared.encode.Slash.TheVariants.{Encoded}
use Rattle.sigtext.specs.declared.target.RawParam.{RawParam}
use Rattle.sigtext.specs.declared.params.Params.{Params}
use Rattle.sigtext.specs.Bytes.{bytes_cmp}
use Rattle.sigtext.specs.UriEncode.{uri_encoded}
use Rattle.sigtext.specs.Target.{Param}
use Rattle.sigtext.specs.Targets.{SpellRawParam, SpellsOptionalQuery, GivesNext}
use Rattle.sigtext.specs.declared.target.Pairs.{Pairs}
use Rattle.sigtext.specs.CanonicalQuery.{ascends}
use Rattle.sigtext.specs.Signing.{SpellRawParams, HoldsParams}
use Rattle.sigtext.proofs.Targets.{decoded}

-- ---- what raw names and values spell

-- the encoded name
abbrev pub encoded_name : RawParam → List ℕ
encoded_name raw = uri_encoded Encoded (percent_decode raw.name.now)

-- it spells its own decoding
abbrev pub SpellsItsDecoding : RawParam → Type 0
SpellsItsDecoding raw = SpellRawParam raw (decoded_param raw)

is_decoded : (raw : RawParam) (p : Param) → SpellRawParam raw p → decoded_param raw ≡ p
is_decoded raw p s =
    let name = decoded (38 ∷ 61 ∷ []) raw.name.now p.name s.name_spelled in
    let value = decoded (38 ∷ []) raw.value.now p.value s.value_spelled in
    ap (λ n. record { name = n; value = percent_decode raw.value.now }) name ∙ ap (λ v. record { name = p.name; value = v }) value

pub are_decoded : (raws : List RawParam) (params : List Param) → SpellRawParams raws params → map decoded_param raws ≡ params
are_decoded [] [] s = refl
are_decoded [] (p ∷ params) s = absurd s
are_decoded (raw ∷ raws) [] s = absurd s
are_decoded (raw ∷ raws) (p ∷ params) s = cc (is_decoded raw p s.0, are_decoded raws params s.1)

pub each_spells : (raws : List RawParam) (params : List Param) → SpellRawParams raws params → All SpellsItsDecoding raws
each_spells [] [] s = All-nil SpellsItsDecoding
each_spells [] (p ∷ params) s = absurd s
each_spells (raw ∷ raws) [] s = absurd s
each_spells (raw ∷ raws) (p ∷ params) s =
    All-cons SpellsItsDecoding raw raws (subst (SpellRawParam raw) (sym (is_decoded raw p s.0)) s.0) (each_spells raws params s.1)

spell_decodings : (raws : List RawParam) → All SpellsItsDecoding raws → SpellRawParams raws (map decoded_param raws)
spell_decodings [] s = tt
spell_decodings (raw ∷ raws) s = (All-head SpellsItsDecoding raw raws s, spell_decodings raws (All-tail SpellsItsDecoding raw raws s))

-- ---- the pieces of a query in order

-- all raw names and values of a query spell its parameters
pub all_spell : (pairs : Pairs) (raws : List RawParam) (params : List Param) → Drains GivesNext pairs raws → SpellsOptionalQuery pairs.left params → SpellRawParams raws params
all_spell pairs [] params (after, (last, is, ended)) s =
    let none = ended.param params (subst (λ (p : Pairs). SpellsOptionalQuery p.left params) is s) in
    subst (SpellRawParams []) (sym none) tt
all_spell pairs (raw ∷ raws) params (after, (last, went, ended)) s =
    let one = went.1.param params s in
    subst (SpellRawParams (raw ∷ raws)) (sym one.2) (one.3, all_spell went.0 raws one.1 (after, (last, went.2, ended)) one.4)

-- ---- neighbours

-- none is less than its predecessor
abbrev pub NeverFall : List RawParam → Type 0
NeverFall raws = (k : ℕ) (d : RawParam) → suc k < length raws → is_lt (bytes_cmp (encoded_name (get_or raws (suc k) d)) (encoded_name (get_or raws k d))) ≡ false

pub never_fall : (raws : List RawParam) → IsSortedBy (λ x y. is_lt (bytes_cmp (encoded_name x) (encoded_name y))) raws → NeverFall raws
never_fall raws up k d within =
    let next : k + 1 ≡ suc k = omega arith in
    subst (λ n. is_lt (bytes_cmp (encoded_name (get_or raws n d)) (encoded_name (get_or raws k d))) ≡ false) next (up k d (omega arith) (omega arith))

each_below : (raws : List RawParam) → ((k : ℕ) (d : RawParam) → suc k < length raws → true ≡ is_lt (bytes_cmp (encoded_name (get_or raws k d)) (encoded_name (get_or raws (suc k) d))))
    → true ≡ ascends (map encoded_name raws)
each_below [] h = refl
each_below (x ∷ []) h = refl
each_below (x ∷ y ∷ raws) h =
    sym (and_from _ _ (sym (h zero x (omega arith))) (sym (each_below (y ∷ raws) (λ k d within. h (suc k) d (omega arith)))))

one_not_below : (raws : List RawParam) (k : ℕ) (d : RawParam) → suc k < length raws → false ≡ is_lt (bytes_cmp (encoded_name (get_or raws k d)) (encoded_name (get_or raws (suc k) d)))
    → false ≡ ascends (map encoded_name raws)
one_not_below [] k d within h = absurd (omega arith)
one_not_below (x ∷ []) k d within h = absurd (omega arith)
one_not_below (x ∷ y ∷ raws) zero d within h = sym (and_left _ _ (sym h))
one_not_below (x ∷ y ∷ raws) (suc k) d within h = sym (and_right _ _ (sym (one_not_below (y ∷ raws) k d (omega arith) h)))

-- the answer of a test of all neighbours
pub tested_neighbours : (raws : List RawParam) (r : Bool) → IsAllAdjacentAnswer (λ x y b. b ≡ is_lt (bytes_cmp (encoded_name x) (encoded_name y))) raws r → r ≡ ascends (map encoded_name raws)
tested_neighbours raws true h = each_below raws (λ k d within. let next : k + 1 ≡ suc k = omega arith in subst (λ n. true ≡ is_lt (bytes_cmp (encoded_name (get_or raws k d)) (encoded_name (get_or raws n d)))) next (h k d (omega arith)))
tested_neighbours [] false h = absurd (omega (arith, h.1))
tested_neighbours (x ∷ raws) false h =
    let next : h.0 + 1 ≡ suc h.0 = omega arith in
    one_not_below (x ∷ raws) h.0 x (omega (arith, h.1)) (subst (λ n. false ≡ is_lt (bytes_cmp (encoded_name (get_or (x ∷ raws) h.0 x)) (encoded_name (get_or (x ∷ raws) n x)))) next (h.2 x))

-- ---- another order of the same raw names and values

pub moved_spellings : (raws sorted : List RawParam) (params : List Param) → SpellRawParams raws params → IsPermutation raws sorted → All SpellsItsDecoding sorted
moved_spellings raws sorted params s moved = All-permutation SpellsItsDecoding raws sorted moved (each_spells raws params s)

pub rearranged : (raws sorted : List RawParam) (params : List Param) → SpellRawParams raws params → IsPermutation raws sorted → IsPermutation params (map decoded_param sorted)
rearranged raws sorted params s moved =
    subst (λ (ps : List Param). IsPermutation ps (map decoded_param sorted)) (are_decoded raws params s) (IsPermutation-map decoded_param raws sorted moved)

pub holds : (sorted : Params) (raws : List RawParam) (params : List Param) → SpellRawParams raws params → IsPermutation raws sorted.items.items
    → true ≡ ascends (map encoded_name sorted.items.items) → HoldsParams sorted params
holds sorted raws params s moved up = record {
  ordered = map decoded_param sorted.items.items;
  rearranged = rearranged raws sorted.items.items params s moved;
  ascend = ap ascends (map-map (λ (p : Param). uri_encoded Encoded p.name) decoded_param sorted.items.items) ∙ sym up;
  spelled = spell_decodings sorted.items.items (moved_spellings raws sorted.items.items params s moved);
}
