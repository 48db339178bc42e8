-- Encoded texts compare as their bytes do by two keys: whether encoding keeps the byte, and the byte.
use Rattle.std.proofs.Common.{◌≡◌, ℕ, ◌/◌, ◌%◌, ◌<◌, Bool, true, false, cond, List, [], ◌∷◌, ◌++◌, refl, sym, ap, ◌∙◌, subst, ⊎_elim, arith, All, map}
use Rattle.std.specs.List.{AllByRecursion}
use Rattle.std.specs.Cmp.Lexicographic.{slice_cmp}
use Rattle.std.specs.Fmt.{digit_glyph}
use Rattle.std.specs.Ordering.{nat_cmp, bool_cmp, ordering_then, is_eq}
use Rattle.std.specs.declared.cmp.Ordering.{Ordering}
use Rattle.std.specs.declared.cmp.Ordering.TheVariants.{Less, Equal, Greater}
use Rattle.std.proofs.lemmas.Bool.{lt-ltb, le-ltb, ne_eqb, cond-true, cond-false, cases_order}
use Rattle.std.proofs.lemmas.Bool.Decides.{nat_tests}
use Rattle.std.proofs.lemmas.Cmp.{nat_cmp_total, tied_itself}
use Rattle.std.proofs.lemmas.List.Elements.{All-nil, All-cons, All-head, All-tail, recursion_from_All}
use Rattle.std.proofs.lemmas.Map.Text.{is_eq-slice_cmp}
use Rattle.std.proofs.lemmas.Slice.Eq.{bytes_eq-Decides}
use Rattle.percent_encoding.specs.Percent.{percent_decode}
use Rattle.sigtext.specs.declared.encode.Slash.TheVariants.{Encoded}
use Rattle.sigtext.specs.Bytes.{AreBytes, bytes_cmp}
use Rattle.sigtext.specs.SameText.{IsPlainParam}
use Rattle.sigtext.specs.Spelling.{SpellsByte, raw, escaped, Spells}
use Rattle.sigtext.specs.Target.{Param, SpellsParam, SpellsParams, IsTargetOf}
use Rattle.sigtext.specs.UriEncode.{is_unreserved, escape, encoded_byte, uri_encoded}
use Rattle.sigtext.proofs.Decoding.{decodes}

abbrev pub rank : ℕ → Bool × ℕ
rank b = (is_unreserved b, b)

abbrev pub rank_cmp : Bool × ℕ → Bool × ℕ → Ordering
rank_cmp p q = ordering_then (bool_cmp p.0 q.0) (nat_cmp p.1 q.1)

-- ---- numbers and digits

below : (x y : ℕ) → x < y → nat_cmp x y ≡ Less
below x y h = cond-true _ _ _ (lt-ltb x y h)

above : (x y : ℕ) → y < x → nat_cmp x y ≡ Greater
above x y h = cond-false _ _ _ (le-ltb x y (omega arith)) ∙ cond-false _ _ _ (ne_eqb x y (λ e. omega arith))

level : (x y : ℕ) → x ≡ y → nat_cmp x y ≡ Equal
level x y e = ap (λ (z : ℕ). nat_cmp x z) (sym e) ∙ tied_itself nat_cmp_total x

glyphs_rise : (a b : ℕ) → a < b → b < 16 → digit_glyph true a < digit_glyph true b
glyphs_rise a b h small = grind (arith, nat_tests)

-- two digits compare as their numbers do
glyphs : (a b : ℕ) → a < 16 → b < 16 → nat_cmp (digit_glyph true a) (digit_glyph true b) ≡ nat_cmp a b
glyphs a b small_a small_b =
    ⊎_elim
    (λ same. level (digit_glyph true a) (digit_glyph true b) (ap (digit_glyph true) same) ∙ sym (level a b same))
    (λ other. ⊎_elim
    (λ less. below _ _ (glyphs_rise a b less small_b) ∙ sym (below a b less))
    (λ more. above _ _ (glyphs_rise b a more small_a) ∙ sym (above a b more))
    other)
    (cases_order a b)

-- pairs of digits compare as their numbers do
places : (x y : ℕ) → ordering_then (nat_cmp (x / 16) (y / 16)) (nat_cmp (x % 16) (y % 16)) ≡ nat_cmp x y
places x y =
    ⊎_elim
    (λ same. ap (λ o. ordering_then o (nat_cmp (x % 16) (y % 16))) (level _ _ same) ∙ last same)
    (λ other. ⊎_elim
    (λ less. ap (λ o. ordering_then o (nat_cmp (x % 16) (y % 16))) (below _ _ less) ∙ sym (below x y (omega arith)))
    (λ more. ap (λ o. ordering_then o (nat_cmp (x % 16) (y % 16))) (above _ _ more) ∙ sym (above x y (omega arith)))
    other)
    (cases_order (x / 16) (y / 16))
  where
    last : x / 16 ≡ y / 16 → nat_cmp (x % 16) (y % 16) ≡ nat_cmp x y
    last same =
        ⊎_elim
        (λ e. level _ _ e ∙ sym (level x y (omega arith)))
        (λ other. ⊎_elim
        (λ less. below _ _ less ∙ sym (below x y (omega arith)))
        (λ more. above _ _ more ∙ sym (above x y (omega arith)))
        other)
        (cases_order (x % 16) (y % 16))

then_assoc : (a b c : Ordering) → ordering_then a (ordering_then b c) ≡ ordering_then (ordering_then a b) c
then_assoc Less b c = refl
then_assoc Equal b c = refl
then_assoc Greater b c = refl

-- ---- bytes

escapes : (x y : ℕ) (s t : List ℕ) → x < 256 → y < 256 → bytes_cmp (escape x ++ s) (escape y ++ t) ≡ ordering_then (nat_cmp x y) (bytes_cmp s t)
escapes x y s t small_x small_y =
    ap (λ o. ordering_then o (ordering_then (nat_cmp (digit_glyph true (x % 16)) (digit_glyph true (y % 16))) (bytes_cmp s t))) (glyphs (x / 16) (y / 16) (omega arith) (omega arith))
    ∙ ap (λ o. ordering_then (nat_cmp (x / 16) (y / 16)) (ordering_then o (bytes_cmp s t))) (glyphs (x % 16) (y % 16) (omega arith) (omega arith))
    ∙ then_assoc (nat_cmp (x / 16) (y / 16)) (nat_cmp (x % 16) (y % 16)) (bytes_cmp s t)
    ∙ ap (λ o. ordering_then o (bytes_cmp s t)) (places x y)

above_percent : (x : ℕ) → is_unreserved x ≡ true → 37 < x
above_percent x h = grind (arith, nat_tests)

by_kinds : (p q : Bool) (x y : ℕ) (s t : List ℕ) → is_unreserved x ≡ p → is_unreserved y ≡ q → x < 256 → y < 256
    → bytes_cmp (cond p (x ∷ []) (escape x) ++ s) (cond q (y ∷ []) (escape y) ++ t) ≡ ordering_then (ordering_then (bool_cmp p q) (nat_cmp x y)) (bytes_cmp s t)
by_kinds true true x y s t u v small_x small_y = refl
by_kinds true false x y s t u v small_x small_y =
    ap (λ o. ordering_then o (bytes_cmp s (digit_glyph true (y / 16) ∷ digit_glyph true (y % 16) ∷ t))) (above x 37 (above_percent x u))
by_kinds false true x y s t u v small_x small_y =
    ap (λ o. ordering_then o (bytes_cmp (digit_glyph true (x / 16) ∷ digit_glyph true (x % 16) ∷ s) t)) (below 37 y (above_percent y v))
by_kinds false false x y s t u v small_x small_y = escapes x y s t small_x small_y

heads : (x y : ℕ) (s t : List ℕ) → x < 256 → y < 256
    → bytes_cmp (encoded_byte Encoded x ++ s) (encoded_byte Encoded y ++ t) ≡ ordering_then (rank_cmp (rank x) (rank y)) (bytes_cmp s t)
heads x y s t = by_kinds (is_unreserved x) (is_unreserved y) x y s t refl refl

shorter : (p : Bool) (y : ℕ) (t : List ℕ) → bytes_cmp [] (cond p (y ∷ []) (escape y) ++ t) ≡ Less
shorter true y t = refl
shorter false y t = refl

longer : (p : Bool) (x : ℕ) (s : List ℕ) → bytes_cmp (cond p (x ∷ []) (escape x) ++ s) [] ≡ Greater
longer true x s = refl
longer false x s = refl

-- ---- texts

pub encoded_cmp : (xs ys : List ℕ) → All (λ b. b < 256) xs → All (λ b. b < 256) ys
    → slice_cmp rank_cmp (map rank xs) (map rank ys) ≡ bytes_cmp (uri_encoded Encoded xs) (uri_encoded Encoded ys)
unfolding uri_encoded
encoded_cmp [] [] small_x small_y = refl
encoded_cmp [] (y ∷ ys) small_x small_y = sym (shorter (is_unreserved y) y (uri_encoded Encoded ys))
encoded_cmp (x ∷ xs) [] small_x small_y = sym (longer (is_unreserved x) x (uri_encoded Encoded xs))
encoded_cmp (x ∷ xs) (y ∷ ys) small_x small_y =
    ap (ordering_then (rank_cmp (rank x) (rank y))) (encoded_cmp xs ys (All-tail (λ b. b < 256) x xs small_x) (All-tail (λ b. b < 256) y ys small_y))
    ∙ sym (heads x y (uri_encoded Encoded xs) (uri_encoded Encoded ys) (All-head (λ b. b < 256) x xs small_x) (All-head (λ b. b < 256) y ys small_y))

-- bytes with the same encoded text are the same
pub same_bytes_from : (xs ys : List ℕ) → All (λ b. b < 256) xs → All (λ b. b < 256) ys → bytes_cmp (uri_encoded Encoded xs) (uri_encoded Encoded ys) ≡ Equal → xs ≡ ys
same_bytes_from xs ys small_x small_y h =
    let same = (bytes_eq-Decides (uri_encoded Encoded xs) (uri_encoded Encoded ys)).0 (sym (is_eq-slice_cmp (uri_encoded Encoded xs) (uri_encoded Encoded ys)) ∙ ap is_eq h) in
    sym (decodes xs (recursion_from_All (λ b. b < 256) xs small_x)) ∙ ap percent_decode same ∙ decodes ys (recursion_from_All (λ b. b < 256) ys small_y)

-- ---- what a text spells is bytes

byte_small : (barred piece : List ℕ) (b : ℕ) → SpellsByte barred piece b → b < 256
byte_small barred piece b (raw x h) = grind (arith, nat_tests)
byte_small barred piece b (escaped high low h l) = grind (arith, nat_tests)

pub spelled_small : (barred text bytes : List ℕ) → Spells barred text bytes → All (λ b. b < 256) bytes
spelled_small barred text [] s = All-nil (λ b. b < 256)
spelled_small barred text (b ∷ bytes) s = All-cons (λ x. x < 256) b bytes (byte_small barred s.0 b s.3) (spelled_small barred s.1 bytes s.4)

spelled_bytes : (barred text bytes : List ℕ) → Spells barred text bytes → AreBytes bytes
spelled_bytes barred text bytes s = recursion_from_All (λ b. b < 256) bytes (spelled_small barred text bytes s)

param_bytes : (piece : List ℕ) (p : Param) → SpellsParam piece p → IsPlainParam p
param_bytes piece p s =
    ⊎_elim
    (λ alone. record { name_bytes = spelled_bytes (38 ∷ 61 ∷ []) piece p.name alone.0; value_bytes = subst AreBytes (sym alone.1) tt })
    (λ pair. record { name_bytes = spelled_bytes (38 ∷ 61 ∷ []) pair.0 p.name pair.3; value_bytes = spelled_bytes (38 ∷ []) pair.1 p.value pair.4 })
    s.1

params_bytes : (pieces : List (List ℕ)) (params : List Param) → SpellsParams pieces params → AllByRecursion IsPlainParam params
params_bytes [] [] s = tt
params_bytes [] (p ∷ params) s = absurd s
params_bytes (piece ∷ pieces) [] s = absurd s
params_bytes (piece ∷ pieces) (p ∷ params) s = (param_bytes piece p s.0, params_bytes pieces params s.1)

-- the path and the parameters of a target are bytes
pub target_bytes : (target path : List ℕ) (params : List Param) → IsTargetOf target path params → AreBytes path × AllByRecursion IsPlainParam params
target_bytes target path params t =
    ⊎_elim
    (λ alone. (spelled_bytes (63 ∷ []) target path alone.0, subst (AllByRecursion IsPlainParam) (sym alone.1) tt))
    (λ pair. (spelled_bytes (63 ∷ []) pair.0 path pair.3, params_bytes pair.4.0 params pair.4.3))
    t.1
