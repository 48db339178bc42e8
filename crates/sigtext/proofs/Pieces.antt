-- The pieces of a query in order, and the raw name and value of each.
use Rattle.std.proofs.Common.{◌≡◌, ◌≢◌, ℕ, ◌<◌, true, false, eqb, List, [], ◌∷◌, ◌++◌, length, Option, Some, None, refl, sym, ap, subst, ◌∙◌, inl, inr, ⊎_elim, arith, All}
use Rattle.std.specs.Prelude.{unwrap_or, MatchOption, ◌↔◌}
use Rattle.std.specs.Borrow.{Bor}
use Rattle.std.specs.List.{slice_split}
use Rattle.std.proofs.lemmas.Bool.{cases_Bool, eqb-true, eq-eqb}
use Rattle.std.proofs.lemmas.List.Elements.{All-weaker}
use Rattle.std.proofs.lemmas.List.Splits.{slice_split_at, slice_split_none}
use Rattle.sigtext.specs.declared.target.RawParam.{RawParam}
use Rattle.sigtext.specs.declared.target.Pairs.{Pairs}
use Rattle.sigtext.specs.Spelling.{Spells}
use Rattle.sigtext.specs.Target.{Param, SpellsParam, SpellsQuery}
use Rattle.sigtext.specs.Targets.{Lacks, SpellsSome, SpellsOptionalQuery, IsRawParam, SpellRawParam, BeginsWithPiece, GivesNext}
use Rattle.sigtext.proofs.Reading.{◌>>=◌, cut, raw_param, spelled_param, spelled_params}
use Rattle.sigtext.proofs.SpellingLemmas.{spelled_from, spelled-nil}
use Rattle.sigtext.proofs.Cuts.{cut_at, cut_absent}
use Rattle.sigtext.proofs.Readings.{bound, parts_of, some_list, param_to, param_from, query_to, query_from}

pub tested : (c : ℕ) (xs : List ℕ) → Lacks c xs → All (λ x. eqb x c ≡ false) xs
tested c xs h =
    All-weaker (λ b. b ≢ c) (λ b. eqb b c ≡ false) (λ b other. ⊎_elim (λ here. absurd (other (eqb-true b c here))) (λ differs. differs) (cases_Bool (eqb b c))) xs h

-- ---- names and values

nonempty : (barred text bytes : List ℕ) → 0 < length text → Spells barred text bytes → 0 < length bytes
nonempty barred text [] h s = absurd (omega (arith, ap length s))
nonempty barred text (b ∷ bytes) h s = omega arith

empty : (barred bytes : List ℕ) → Spells barred [] bytes → bytes ≡ []
empty barred bytes s = let e = sym (spelled_from barred [] bytes s) ∙ spelled-nil barred in cc

pub some_bytes : (text : List ℕ) → false ≡ eqb (length text) 0 → 0 < length text
some_bytes [] e = absurd cc
some_bytes (b ∷ text) e = omega arith

pub no_bytes : (text : List ℕ) → true ≡ eqb (length text) 0 → text ≡ []
no_bytes [] e = refl
no_bytes (b ∷ text) e = absurd (omega (arith, eqb-true (length (b ∷ text)) 0 (sym e)))

-- a name of one byte or more and a value spell some parameter
pub param_of : (raw : RawParam) → 0 < length raw.name.now → SpellsSome (38 ∷ 61 ∷ []) raw.name.now → SpellsSome (38 ∷ []) raw.value.now → (p : Param) × SpellRawParam raw p
param_of raw long n v =
    (record { name = n.0; value = v.0 }, record { some = nonempty (38 ∷ 61 ∷ []) raw.name.now n.0 long n.1; name_spelled = n.1; value_spelled = v.1 })

-- an empty name spells no parameter
pub no_name : (raw : RawParam) (p : Param) → raw.name.now ≡ [] → SpellRawParam raw p → ⊥
no_name raw p none w =
    let nothing = empty (38 ∷ 61 ∷ []) p.name (subst (λ (t : List ℕ). Spells (38 ∷ 61 ∷ []) t p.name) none w.name_spelled) in
    let some = w.some in
    omega (arith, ap length nothing, some)

raw_is : (piece : List ℕ) (raw : RawParam) → IsRawParam piece raw → raw_param piece ≡ (raw.name.now, raw.value.now)
unfolding raw_param
raw_is piece raw r =
    let first = tested 61 raw.name.now r.0 in
    ⊎_elim
    (λ alone.
    let whole : (piece, []) ≡ (raw.name.now, raw.value.now) = let p = alone.0 in let q = alone.1 in cc in
    ap (λ (o : Option (List ℕ × List ℕ)). unwrap_or o (piece, [])) (ap (cut 61) alone.0 ∙ cut_absent 61 raw.name.now first) ∙ whole)
    (λ pair. ap (λ (o : Option (List ℕ × List ℕ)). unwrap_or o (piece, [])) (ap (cut 61) pair ∙ cut_at 61 raw.name.now raw.value.now first))
    r.1

raw_from : (piece : List ℕ) (raw : RawParam) (p : Param) → IsRawParam piece raw → SpellsParam piece p → SpellRawParam raw p
raw_from piece raw p r s =
    let parts = parts_of (raw.name.now, raw.value.now) p (sym (ap spelled_param (raw_is piece raw r)) ∙ param_from piece p s) in
    record { some = parts.0; name_spelled = parts.1; value_spelled = parts.2 }

raw_to : (piece : List ℕ) (raw : RawParam) (p : Param) → IsRawParam piece raw → SpellRawParam raw p → SpellsParam piece p
raw_to piece raw p r w =
    ⊎_elim
    (λ alone. (
      w.some,
      inl (
        subst (λ (t : List ℕ). Spells (38 ∷ 61 ∷ []) t p.name) (sym alone.0) w.name_spelled,
        empty (38 ∷ []) p.value (subst (λ (t : List ℕ). Spells (38 ∷ []) t p.value) alone.1 w.value_spelled),
      ),
    ))
    (λ pair. (w.some, inr (raw.name.now, raw.value.now, pair, w.name_spelled, w.value_spelled)))
    r.1

-- ---- pieces

query_first : (text piece more : List ℕ) (params : List Param) → text ≡ piece ++ 38 ∷ more → Lacks 38 piece → SpellsQuery text params
    → (p : Param) × (others : List Param) × (params ≡ p ∷ others) × SpellsParam piece p × SpellsQuery more others
unfolding spelled_params
query_first text piece more params is first s =
    let split = ap (slice_split (λ b. eqb b 38)) is ∙ slice_split_at (λ b. eqb b 38) piece 38 more (tested 38 piece first) (eq-eqb 38 38 refl) in
    let all : spelled_params (piece ∷ slice_split (λ b. eqb b 38) more) ≡ Some params =
    subst (λ (t : List (List ℕ)). spelled_params t ≡ Some params) split (query_from text params s) in
    let f = bound (spelled_param (raw_param piece)) (λ first. spelled_params (slice_split (λ b. eqb b 38) more) >>= λ others. Some (first ∷ others)) params all in
    let o = bound (spelled_params (slice_split (λ b. eqb b 38) more)) (λ others. Some (f.0 ∷ others)) params f.2 in
    (f.0, o.0, sym (some_list (f.0 ∷ o.0) params o.2), param_to piece f.0 f.1, query_to more o.0 o.1)

query_last : (text : List ℕ) (params : List Param) → Lacks 38 text → SpellsQuery text params → (p : Param) × (params ≡ p ∷ []) × SpellsParam text p
unfolding spelled_params
query_last text params first s =
    let split = slice_split_none (λ b. eqb b 38) text (tested 38 text first) in
    let all : spelled_params (text ∷ []) ≡ Some params = sym (ap (λ (t : List (List ℕ)). spelled_params t) split) ∙ query_from text params s in
    let f = bound (spelled_param (raw_param text)) (λ first. Some (first ∷ [])) params all in
    (f.0, sym (some_list (f.0 ∷ []) params f.2), param_to text f.0 f.1)

query_more : (piece more : List ℕ) (p : Param) (others : List Param) → SpellsParam piece p → SpellsQuery more others → SpellsQuery (piece ++ 38 ∷ more) (p ∷ others)
query_more piece more p others one ([], long, is, all) = absurd (omega arith)
query_more piece more p others one (next ∷ pieces, long, is, all) =
    (piece ∷ next ∷ pieces, omega arith, ap (λ (t : List ℕ). piece ++ 38 ∷ t) is, (one, all))

given : (text piece : List ℕ) (left : Option (Bor (List ℕ))) (raw : RawParam) (params : List Param) → BeginsWithPiece text piece left → IsRawParam piece raw → SpellsQuery text params
    → (p : Param) × (others : List Param) × (params ≡ p ∷ others) × SpellRawParam raw p × SpellsOptionalQuery left others
given text piece None raw params b r s =
    let l = query_last text params (subst (Lacks 38) (sym b.parts) b.first) s in
    (l.0, [], l.1, raw_from piece raw l.0 r (subst (λ (t : List ℕ). SpellsParam t l.0) b.parts l.2), refl)
given text piece (Some more) raw params b r s =
    let f = query_first text piece more.now params b.parts b.first s in
    (f.0, f.1, f.2, raw_from piece raw f.0 r f.3, f.4)

-- the step that gives a piece's raw name and value
pub step : (before after : Pairs) (raw : RawParam) (text : Bor (List ℕ)) (piece : List ℕ) → before.left ≡ Some text
    → BeginsWithPiece text.now piece after.left → IsRawParam piece raw → GivesNext before (Some raw) after
step before after raw text piece is b r = by before.left is
  where
    by : (left : Option (Bor (List ℕ))) → left ≡ Some text → GivesNext (record { left = left }) (Some raw) after
    by left is =
        subst (λ (l : Option (Bor (List ℕ))). GivesNext (record { left = l }) (Some raw) after) (sym is)
        (record { piece = (piece, b, r); param = λ params s. given text.now piece after.left raw params b r s })

-- ---- whether what is left spells some parameters

abbrev pub SpellsSomeOptional : Option (Bor (List ℕ)) → Type 0
SpellsSomeOptional left = (params : List Param) × SpellsOptionalQuery left params

never : (raw : RawParam) → Some raw ≡ None → ⊥
never raw e = cc

joined : (before left : Option (Bor (List ℕ))) (raw : RawParam) (p : Param) (others : List Param)
    → (P : Type 0) → MatchOption before ((Some raw ≡ None) × P) (λ text. (piece : List ℕ) × BeginsWithPiece text.now piece left × IsRawParam piece raw)
    → SpellRawParam raw p → SpellsOptionalQuery left others → SpellsOptionalQuery before (p ∷ others)
joined None left raw p others P g w s = absurd (never raw g.0)
joined (Some text) None raw p others P (piece, b, r) w s =
    let alone : SpellsQuery piece (p ∷ []) = (piece ∷ [], omega arith, refl, (raw_to piece raw p r w, tt)) in
    subst (λ (ps : List Param). SpellsQuery text.now (p ∷ ps)) (sym s) (subst (λ (t : List ℕ). SpellsQuery t (p ∷ [])) (sym b.parts) alone)
joined (Some text) (Some more) raw p others P (piece, b, r) w s =
    subst (λ (t : List ℕ). SpellsQuery t (p ∷ others)) (sym b.parts) (query_more piece more.now p others (raw_to piece raw p r w) s)

-- a step over a piece that spells a parameter
pub goes_on : (before after : Pairs) (raw : RawParam) → GivesNext before (Some raw) after → ((p : Param) × SpellRawParam raw p) → SpellsSomeOptional after.left ↔ SpellsSomeOptional before.left
goes_on before after raw g w = (
  λ s. (w.0 ∷ s.0, joined before.left after.left raw w.0 s.0 _ g.piece w.1 s.1),
  λ s. let f = g.param s.0 s.1 in (f.1, f.4),
)

-- a step over a piece that spells none
pub stops : (before after : Pairs) (raw : RawParam) → GivesNext before (Some raw) after → ((p : Param) × SpellRawParam raw p → ⊥) → SpellsSomeOptional before.left → ⊥
stops before after raw g none s = let f = g.param s.0 s.1 in none (f.0, f.3)

-- nothing is left
pub ends : (before after : Pairs) → GivesNext before None after → SpellsSomeOptional before.left
ends before after g = by before.left _ g.piece
  where
    by : (left : Option (Bor (List ℕ))) (P : Type 0) → MatchOption left P (λ text. ⊥) → SpellsSomeOptional left
    by None P e = ([], refl)
    by (Some text) P e = absurd e
