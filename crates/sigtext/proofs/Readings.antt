-- Decoding finds what a target spells, and the target spells nothing else.
use Rattle.std.proofs.Common.{◌≡◌, ℕ, ◌<◌, true, false, eqb, List, [], ◌∷◌, ◌++◌, length, Option, Some, None, refl, sym, ap, subst, ◌∙◌, inl, inr, ⊎_elim, arith, All}
use Rattle.std.specs.Prelude.{is_some, unwrap_or, ◌⊎◌, ⊤}
use Rattle.std.specs.List.{AllByRecursion, slice_split}
use Rattle.std.specs.Char.{is_digit}
use Rattle.std.proofs.lemmas.Bool.{cases_Bool, eqb-true}
use Rattle.std.proofs.lemmas.Bool.Decides.{nat_tests}
use Rattle.std.proofs.lemmas.List.Elements.{All-nil, All-cons, All-append}
use Rattle.std.proofs.lemmas.List.Splits.{length-slice_split, join_with_byte-slice_split}
use Rattle.sigtext.specs.Spelling.{may_stand, SpellsByte, raw, escaped, Spells}
use Rattle.sigtext.specs.Target.{Param, BeginsWithSlash, SpellsParam, SpellsParams, SpellsQuery, IsTargetOf}
use Rattle.sigtext.proofs.Reading.{◌>>=◌, spelled, cut, raw_param, named_param, spelled_param, spelled_params, spelled_query, optional_query, at_cut, raw_target}
use Rattle.sigtext.proofs.SpellingLemmas.{spelled_from, spells_from, spelled-nil}
use Rattle.sigtext.proofs.Cuts.{cut_at, cut_absent, cut_here, cut_later, with_front, split_joined}

-- ---- bytes that no spelling contains

-- with these bytes barred, no spelling contains the byte c
pub record Separates (barred : List ℕ) (c : ℕ) : Type 0 where
  pub raw_other : (x : ℕ) → may_stand barred x ≡ true → eqb x c ≡ false
  pub percent_other : eqb 37 c ≡ false
  pub digit_other : (x : ℕ) → is_digit x 16 ≡ true → eqb x c ≡ false

piece_lacks : (barred : List ℕ) (c : ℕ) (piece : List ℕ) (b : ℕ) → Separates barred c → SpellsByte barred piece b → All (λ x. eqb x c ≡ false) piece
piece_lacks barred c piece b sep (raw x h) = All-cons (λ y. eqb y c ≡ false) x [] (sep.raw_other x h) (All-nil (λ y. eqb y c ≡ false))
piece_lacks barred c piece b sep (escaped high low h l) =
    All-cons (λ y. eqb y c ≡ false) 37 (high ∷ low ∷ []) sep.percent_other (All-cons (λ y. eqb y c ≡ false) high (low ∷ []) (sep.digit_other high h) (All-cons (λ y. eqb y c ≡ false) low [] (sep.digit_other low l) (All-nil (λ y. eqb y c ≡ false))))

pub lacks : (barred : List ℕ) (c : ℕ) (text bytes : List ℕ) → Separates barred c → Spells barred text bytes → All (λ x. eqb x c ≡ false) text
lacks barred c text [] sep s = subst (All (λ x. eqb x c ≡ false)) (sym s) (All-nil (λ x. eqb x c ≡ false))
lacks barred c text (b ∷ bytes) sep s =
    subst (All (λ x. eqb x c ≡ false)) (sym s.2) (All-append (λ x. eqb x c ≡ false) s.0 s.1 (piece_lacks barred c s.0 b sep s.3) (lacks barred c s.1 bytes sep s.4))

pub name_equals : Separates (38 ∷ 61 ∷ []) 61
name_equals = record { raw_other = λ x h. grind (arith, nat_tests); percent_other = refl; digit_other = λ x h. grind (arith, nat_tests) }

pub name_ampersand : Separates (38 ∷ 61 ∷ []) 38
name_ampersand = record { raw_other = λ x h. grind (arith, nat_tests); percent_other = refl; digit_other = λ x h. grind (arith, nat_tests) }

pub value_ampersand : Separates (38 ∷ []) 38
value_ampersand = record { raw_other = λ x h. grind (arith, nat_tests); percent_other = refl; digit_other = λ x h. grind (arith, nat_tests) }

pub path_question : Separates (63 ∷ []) 63
path_question = record { raw_other = λ x h. grind (arith, nat_tests); percent_other = refl; digit_other = λ x h. grind (arith, nat_tests) }

-- ---- parameters

pub some_is : (x y : List ℕ) → Some x ≡ Some y → x ≡ y
some_is x y e = cc

pub some_list : (x y : List Param) → Some x ≡ Some y → x ≡ y
some_list x y e = cc

pub bound : {A B : Type 0} (o : Option A) (f : A → Option B) (y : B) → (o >>= f) ≡ Some y → (x : A) × (o ≡ Some x) × (f x ≡ Some y)
bound None f y e = absurd cc
bound (Some x) f y e = (x, refl, e)

named_is : (name value : List ℕ) (p : Param) → named_param name value ≡ Some p → (0 < length name) × (name ≡ p.name) × (value ≡ p.value)
named_is [] value p e = absurd cc
named_is (b ∷ name) value p e =
    let is : record { name = b ∷ name; value = value } ≡ p = cc in
    (omega arith, ap (λ (q : Param). q.name) is, ap (λ (q : Param). q.value) is)

named_from : (p : Param) → 0 < length p.name → named_param p.name p.value ≡ Some p
named_from p h = by p.name p.value h
  where
    by : (name value : List ℕ) → 0 < length name → named_param name value ≡ Some (record { name = name; value = value })
    by [] value h = absurd (omega arith)
    by (b ∷ name) value h = refl

pub parts_of : (r : List ℕ × List ℕ) (p : Param) → spelled_param r ≡ Some p → (0 < length p.name) × Spells (38 ∷ 61 ∷ []) r.0 p.name × Spells (38 ∷ []) r.1 p.value
parts_of r p e =
    let n = bound (spelled (38 ∷ 61 ∷ []) r.0) (λ name. spelled (38 ∷ []) r.1 >>= λ value. named_param name value) p e in
    let v = bound (spelled (38 ∷ []) r.1) (λ value. named_param n.0 value) p n.2 in
    let is = named_is n.0 v.0 p v.2 in (
      subst (λ (t : List ℕ). 0 < length t) is.1 is.0,
      subst (Spells (38 ∷ 61 ∷ []) r.0) is.1 (spells_from (38 ∷ 61 ∷ []) r.0 n.0 n.1),
      subst (Spells (38 ∷ []) r.1) is.2 (spells_from (38 ∷ []) r.1 v.0 v.1),
    )

-- a cut's two parts, joined by the byte, are the text
abbrev MatchesCut : ℕ → List ℕ → Option (List ℕ × List ℕ) → Type 0
MatchesCut c xs None = ⊤
MatchesCut c xs (Some p) = xs ≡ p.0 ++ c ∷ p.1

passed : (c x : ℕ) (xs : List ℕ) (o : Option (List ℕ × List ℕ)) → MatchesCut c xs o → MatchesCut c (x ∷ xs) (with_front (x ∷ []) o)
passed c x xs None m = tt
passed c x xs (Some p) m = ap (λ (t : List ℕ). x ∷ t) m

cut_joins : (c : ℕ) (xs : List ℕ) → MatchesCut c xs (cut c xs)
unfolding cut
cut_joins c [] = tt
cut_joins c (x ∷ xs) =
    ⊎_elim
    (λ here. subst (MatchesCut c (x ∷ xs)) (sym (cut_here c x xs here)) (ap (λ (y : ℕ). y ∷ xs) (eqb-true x c here)))
    (λ other. subst (MatchesCut c (x ∷ xs)) (sym (cut_later c x xs other)) (passed c x xs (cut c xs) (cut_joins c xs)))
    (cases_Bool (eqb x c))

-- a name alone, or a name and a value
param_by : (piece : List ℕ) (p : Param) (o : Option (List ℕ × List ℕ)) → MatchesCut 61 piece o → spelled_param (unwrap_or o (piece, [])) ≡ Some p → SpellsParam piece p
param_by piece p None m e =
    let q = parts_of (piece, []) p e in
    let nothing : p.value ≡ [] = some_is p.value [] (sym (spelled_from (38 ∷ []) [] p.value q.2) ∙ spelled-nil (38 ∷ [])) in
    (q.0, inl (q.1, nothing))
param_by piece p (Some r) m e =
    let q = parts_of r p e in
    (q.0, inr (r.0, r.1, m, q.1, q.2))

pub param_to : (piece : List ℕ) (p : Param) → spelled_param (raw_param piece) ≡ Some p → SpellsParam piece p
unfolding raw_param
param_to piece p e = param_by piece p (cut 61 piece) (cut_joins 61 piece) e

spelled_parts : (r : List ℕ × List ℕ) (p : Param) → 0 < length p.name → spelled (38 ∷ 61 ∷ []) r.0 ≡ Some p.name → spelled (38 ∷ []) r.1 ≡ Some p.value → spelled_param r ≡ Some p
spelled_parts r p some n v = rw (n, v) (named_from p some)

pub param_from : (piece : List ℕ) (p : Param) → SpellsParam piece p → spelled_param (raw_param piece) ≡ Some p
unfolding raw_param
param_from piece p s =
    ⊎_elim
    (λ alone.
    let uncut = cut_absent 61 piece (lacks (38 ∷ 61 ∷ []) 61 piece p.name name_equals alone.0) in
    ap (λ o. spelled_param (unwrap_or o (piece, []))) uncut
    ∙ spelled_parts (piece, []) p s.0 (spelled_from (38 ∷ 61 ∷ []) piece p.name alone.0) (spelled-nil (38 ∷ []) ∙ ap (λ (t : List ℕ). Some t) (sym alone.1)))
    (λ pair.
    let here = ap (cut 61) pair.2 ∙ cut_at 61 pair.0 pair.1 (lacks (38 ∷ 61 ∷ []) 61 pair.0 p.name name_equals pair.3) in
    ap (λ o. spelled_param (unwrap_or o (piece, []))) here
    ∙ spelled_parts (pair.0, pair.1) p s.0 (spelled_from (38 ∷ 61 ∷ []) pair.0 p.name pair.3) (spelled_from (38 ∷ []) pair.1 p.value pair.4))
    s.1

-- ---- queries

pub params_to : (pieces : List (List ℕ)) (params : List Param) → spelled_params pieces ≡ Some params → SpellsParams pieces params
unfolding spelled_params
params_to [] params e = subst (SpellsParams []) (some_list [] params e) tt
params_to (piece ∷ pieces) params e =
    let f = bound (spelled_param (raw_param piece)) (λ first. spelled_params pieces >>= λ others. Some (first ∷ others)) params e in
    let o = bound (spelled_params pieces) (λ others. Some (f.0 ∷ others)) params f.2 in
    subst (SpellsParams (piece ∷ pieces)) (some_list (f.0 ∷ o.0) params o.2) (param_to piece f.0 f.1, params_to pieces o.0 o.1)

pub params_from : (pieces : List (List ℕ)) (params : List Param) → SpellsParams pieces params → spelled_params pieces ≡ Some params
unfolding spelled_params
params_from [] [] s = refl
params_from [] (p ∷ params) s = absurd s
params_from (piece ∷ pieces) [] s = absurd s
params_from (piece ∷ pieces) (p ∷ params) s = rw (param_from piece p s.0, params_from pieces params s.1) refl

piece_without : (piece : List ℕ) (p : Param) → SpellsParam piece p → All (λ x. eqb x 38 ≡ false) piece
piece_without piece p s =
    ⊎_elim
    (λ alone. lacks (38 ∷ 61 ∷ []) 38 piece p.name name_ampersand alone.0)
    (λ pair. subst (All (λ x. eqb x 38 ≡ false)) (sym pair.2)
    (All-append (λ x. eqb x 38 ≡ false) pair.0 (61 ∷ pair.1) (lacks (38 ∷ 61 ∷ []) 38 pair.0 p.name name_ampersand pair.3)
    (All-cons (λ x. eqb x 38 ≡ false) 61 pair.1 refl (lacks (38 ∷ []) 38 pair.1 p.value value_ampersand pair.4))))
    s.1

pieces_without : (pieces : List (List ℕ)) (params : List Param) → SpellsParams pieces params → AllByRecursion (All (λ x. eqb x 38 ≡ false)) pieces
pieces_without [] params s = tt
pieces_without (piece ∷ pieces) [] s = absurd s
pieces_without (piece ∷ pieces) (p ∷ params) s = (piece_without piece p s.0, pieces_without pieces params s.1)

pub query_to : (text : List ℕ) (params : List Param) → spelled_query text ≡ Some params → SpellsQuery text params
query_to text params e =
    let pieces = slice_split (λ b. eqb b 38) text in
    (pieces, omega (arith, length-slice_split (λ b. eqb b 38) text), sym (join_with_byte-slice_split 38 text), params_to pieces params e)

pub query_from : (text : List ℕ) (params : List Param) → SpellsQuery text params → spelled_query text ≡ Some params
query_from text params s =
    ap (λ (t : List ℕ). spelled_params (slice_split (λ b. eqb b 38) t)) s.2
    ∙ ap spelled_params (split_joined 38 s.0 s.1 (pieces_without s.0 params s.3)) ∙ params_from s.0 params s.3

-- ---- targets

target_by : (target : List ℕ) (o : Option (List ℕ × List ℕ)) (path : List ℕ) (params : List Param) → MatchesCut 63 target o
    → spelled (63 ∷ []) (at_cut target o).0 ≡ Some path
    → optional_query (at_cut target o).1 ≡ Some params
    → (Spells (63 ∷ []) target path × (params ≡ [])) ⊎ ((front query : List ℕ) × (target ≡ front ++ 63 ∷ query) × Spells (63 ∷ []) front path × SpellsQuery query params)
target_by target None path params m e q = inl (spells_from (63 ∷ []) target path e, some_list params [] (sym q))
target_by target (Some p) path params m e q = inr (p.0, p.1, m, spells_from (63 ∷ []) p.0 path e, query_to p.1 params q)

pub target_to : (target path : List ℕ) (params : List Param) → BeginsWithSlash target → spelled (63 ∷ []) (raw_target target).0 ≡ Some path → optional_query (raw_target target).1 ≡ Some params → IsTargetOf target path params
unfolding raw_target
target_to target path params slash e q = (slash, target_by target (cut 63 target) path params (cut_joins 63 target) e q)

pub target_from : (target path : List ℕ) (params : List Param) → IsTargetOf target path params → (spelled (63 ∷ []) (raw_target target).0 ≡ Some path) × (optional_query (raw_target target).1 ≡ Some params)
unfolding raw_target
target_from target path params t =
    ⊎_elim
    (λ alone.
    let uncut = cut_absent 63 target (lacks (63 ∷ []) 63 target path path_question alone.0) in (
      ap (λ o. spelled (63 ∷ []) (at_cut target o).0) uncut ∙ spelled_from (63 ∷ []) target path alone.0,
      ap (λ o. optional_query (at_cut target o).1) uncut ∙ ap (λ (ps : List Param). Some ps) (sym alone.1),
    ))
    (λ pair.
    let here = ap (cut 63) pair.2 ∙ cut_at 63 pair.0 pair.1 (lacks (63 ∷ []) 63 pair.0 path path_question pair.3) in (
      ap (λ o. spelled (63 ∷ []) (at_cut target o).0) here ∙ spelled_from (63 ∷ []) pair.0 path pair.3,
      ap (λ o. optional_query (at_cut target o).1) here ∙ query_from pair.1 params pair.4,
    ))
    t.1

pub path_once : (target path other : List ℕ) → spelled (63 ∷ []) (raw_target target).0 ≡ Some path → spelled (63 ∷ []) (raw_target target).0 ≡ Some other → other ≡ path
path_once target path other a b = some_is other path (sym b ∙ a)

pub params_once : (target : List ℕ) (params others : List Param) → optional_query (raw_target target).1 ≡ Some params → optional_query (raw_target target).1 ≡ Some others → others ≡ params
params_once target params others a b = some_list others params (sym b ∙ a)

pub found : {A : Type 0} (o : Option A) → is_some o ≡ true → (x : A) × (o ≡ Some x)
found None e = absurd cc
found (Some x) e = (x, refl)
