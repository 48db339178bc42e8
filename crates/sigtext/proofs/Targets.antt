-- What the code finds in a target, and what targets spell.
use Rattle.std.proofs.Common.{◌≡◌, ℕ, ◌+◌, ◌*◌, ◌<◌, true, false, eqb, List, [], ◌∷◌, ◌++◌, length, get_or, drop, Option, Some, None, refl, sym, ap, subst, ◌∙◌, inl, inr, arith}
use Rattle.std.specs.Prelude.{is_some, option_map, MatchOption, ◌↔◌, ◌⊎◌}
use Rattle.std.specs.Borrow.{Bor}
use Rattle.std.specs.Char.{digit_value, is_digit}
use Rattle.std.proofs.lemmas.Bool.{cond-true, cond-false}
use Rattle.std.proofs.lemmas.Bool.Decides.{nat_tests}
use Rattle.percent_encoding.specs.Percent.{is_escape, percent_decode}
use Rattle.sigtext.specs.declared.target.Target.{Target}
use Rattle.sigtext.specs.Spelling.{may_stand, SpellsByte, raw, escaped, Spells}
use Rattle.sigtext.specs.Target.{Param, SpellsQuery, BeginsWithSlash, IsTargetOf}
use Rattle.sigtext.specs.Targets.{Lacks, SpellsSome, SpellsOptionalQuery, SpellsReading, IsWrittenAs, IsReadFrom, begins_with_escape}
use Rattle.sigtext.proofs.Reading.{spelled, cut, optional_query, at_cut, raw_target}
use Rattle.sigtext.proofs.SpellingLemmas.{no_escape, spelled_from, spells_from, spelled_at_escape, spelled_at_stand, stands_some, stands_none}
use Rattle.sigtext.proofs.Cuts.{cut_at, cut_absent}
use Rattle.sigtext.proofs.Readings.{found, some_list, query_to, target_from}
use Rattle.sigtext.proofs.Uniqueness.{target_once}
use Rattle.sigtext.proofs.Pieces.{tested}

-- ---- whether a text spells some bytes

spells_some : (barred text : List ℕ) → is_some (spelled barred text) ≡ true → SpellsSome barred text
spells_some barred text e = let f = found (spelled barred text) e in (f.0, spells_from barred text f.0 f.1)

some_spelled : (barred text : List ℕ) → SpellsSome barred text → is_some (spelled barred text) ≡ true
some_spelled barred text s = ap (λ (o : Option (List ℕ)). is_some o) (spelled_from barred text s.0 s.1)

same_some : (barred a b : List ℕ) → is_some (spelled barred a) ≡ is_some (spelled barred b) → SpellsSome barred a ↔ SpellsSome barred b
same_some barred a b e = (λ s. spells_some barred b (sym e ∙ some_spelled barred a s), λ s. spells_some barred a (e ∙ some_spelled barred b s))

pub behind_escape : (barred text : List ℕ) → begins_with_escape text ≡ true → SpellsSome barred (drop 3 text) ↔ SpellsSome barred text
behind_escape barred text e = same_some barred (drop 3 text) text (spelled_at_escape barred text e)

pub behind_byte : (barred text : List ℕ) → 0 < length text → begins_with_escape text ≡ false → may_stand barred (get_or text 0 0) ≡ true → SpellsSome barred (drop 1 text) ↔ SpellsSome barred text
behind_byte barred text long e h =
    let whole = ap (λ (o : Option (List ℕ)). is_some o) (spelled_at_stand barred text long e) ∙ stands_some barred (get_or text 0 0) (spelled barred (drop 1 text)) h in
    same_some barred (drop 1 text) text (sym whole)

pub no_spelling : (barred text : List ℕ) → 0 < length text → begins_with_escape text ≡ false → may_stand barred (get_or text 0 0) ≡ false → SpellsSome barred text → ⊥
no_spelling barred text long e h s =
    let none = spelled_at_stand barred text long e ∙ stands_none barred (get_or text 0 0) (spelled barred (drop 1 text)) h in
    let both = sym none ∙ spelled_from barred text s.0 s.1 in
    cc

-- ---- decoding

decoded_raw : (barred : List ℕ) (b : ℕ) (rest : List ℕ) → may_stand barred b ≡ true → percent_decode (b ∷ rest) ≡ b ∷ percent_decode rest
unfolding percent_decode
decoded_raw barred b [] h = refl
decoded_raw barred b (c ∷ []) h = refl
decoded_raw barred b (high ∷ low ∷ rest) h = cond-false _ _ _ (no_escape barred b high low h)

decoded_escape : (high low : ℕ) (rest : List ℕ) → is_digit high 16 ≡ true → is_digit low 16 ≡ true → percent_decode (37 ∷ high ∷ low ∷ rest) ≡ (16 * digit_value high + digit_value low) ∷ percent_decode rest
unfolding percent_decode
decoded_escape high low rest h l = let is : is_escape 37 high low ≡ true = grind (arith, nat_tests) in cond-true _ _ _ is

decoded_byte : (barred piece rest : List ℕ) (b : ℕ) → SpellsByte barred piece b → percent_decode (piece ++ rest) ≡ b ∷ percent_decode rest
decoded_byte barred piece rest b (raw x h) = decoded_raw barred x rest h
decoded_byte barred piece rest b (escaped high low h l) = decoded_escape high low rest h l

-- a text spells its decoded bytes
pub decoded : (barred text bytes : List ℕ) → Spells barred text bytes → percent_decode text ≡ bytes
unfolding percent_decode
decoded barred text [] s = ap percent_decode s
decoded barred text (b ∷ bytes) s =
    ap percent_decode s.2 ∙ decoded_byte barred s.0 s.1 b s.3 ∙ ap (λ (t : List ℕ). b ∷ t) (decoded barred s.1 bytes s.4)

-- ---- targets

whole_target : (text path : List ℕ) (query : Option (Bor (List ℕ))) (bytes : List ℕ) (params : List Param)
    → MatchOption query (text ≡ path) (λ q. text ≡ path ++ 63 ∷ q.now) → Spells (63 ∷ []) path bytes → SpellsOptionalQuery query params
    → (Spells (63 ∷ []) text bytes × (params ≡ [])) ⊎ ((front rest : List ℕ) × (text ≡ front ++ 63 ∷ rest) × Spells (63 ∷ []) front bytes × SpellsQuery rest params)
whole_target text path None bytes params is s q = inl (subst (λ (t : List ℕ). Spells (63 ∷ []) t bytes) (sym is) s, q)
whole_target text path (Some query) bytes params is s q = inr (path, query.now, is, s, q)

raw_target_is : (text path : List ℕ) (query : Option (Bor (List ℕ))) → MatchOption query (text ≡ path) (λ q. text ≡ path ++ 63 ∷ q.now) → Lacks 63 path
    → raw_target text ≡ (path, option_map (λ (q : Bor (List ℕ)). q.now) query)
unfolding raw_target
raw_target_is text path None is first =
    let alone : List ℕ → List ℕ × Option (List ℕ) = λ t. (t, None) in
    ap (at_cut text) (ap (cut 63) is ∙ cut_absent 63 path (tested 63 path first)) ∙ ap alone is
raw_target_is text path (Some query) is first =
    ap (at_cut text) (ap (cut 63) is ∙ cut_at 63 path query.now (tested 63 path first))

spelled_query_of : (query : Option (Bor (List ℕ))) (params : List Param) → optional_query (option_map (λ (q : Bor (List ℕ)). q.now) query) ≡ Some params → SpellsOptionalQuery query params
spelled_query_of None params e = some_list params [] (sym e)
spelled_query_of (Some query) params e = query_to query.now params e

pub begins : (text : List ℕ) → false ≡ eqb (length text) 0 → get_or text 0 0 ≡ 47 → BeginsWithSlash text
begins [] long first = absurd cc
begins (b ∷ rest) long first = (rest, ap (λ (x : ℕ). x ∷ rest) first)

-- the raw path and query of a target's text spell what the target spells
pub reading_from : (t : Target) (text path : List ℕ) (params : List Param) → IsWrittenAs t text → IsTargetOf text path params → SpellsReading t path params
reading_from t text path params w is =
    let parts = raw_target_is text t.path.now t.query w.parts w.first in
    let f = target_from text path params is in
    record {
      path_spelled = spells_from (63 ∷ []) t.path.now path (sym (ap (λ (r : List ℕ × Option (List ℕ)). spelled (63 ∷ []) r.0) parts) ∙ f.0);
      query_spelled = spelled_query_of t.query params (sym (ap (λ (r : List ℕ × Option (List ℕ)). optional_query r.1) parts) ∙ f.1);
    }

-- a text whose raw path and query spell something has only this parse
pub read_from : (t : Target) (text path : List ℕ) (params : List Param) → IsWrittenAs t text → BeginsWithSlash text
    → Spells (63 ∷ []) t.path.now path → SpellsOptionalQuery t.query params → IsReadFrom text t
read_from t text path params w slash s q =
    let is : IsTargetOf text path params = (slash, whole_target text t.path.now t.query path params w.parts s q) in
    record {
      written = w;
      read = record { path = path; params = params; spelled = record { path_spelled = s; query_spelled = q } };
      is_target = is;
      only = λ other others h. target_once text path other params others is h;
    }
