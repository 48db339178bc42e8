-- An encoded text spells its bytes, and a target written from a path and parameters spells these.
use Rattle.std.proofs.Common.{◌≡◌, ℕ, ◌+◌, ◌*◌, ◌/◌, ◌%◌, ◌<◌, Bool, true, false, eqb, cond, List, [], ◌∷◌, ◌++◌, length, map, refl, ap, ◌∙◌, subst, inr, arith}
use Rattle.std.specs.Prelude.{IsTrue}
use Rattle.std.specs.Char.{digit_value, is_digit}
use Rattle.std.specs.Fmt.{digit_glyph}
use Rattle.std.specs.List.{AllByRecursion, join_with_byte}
use Rattle.std.proofs.lemmas.Bool.{agree_below_at, eqb-true}
use Rattle.std.proofs.lemmas.Bool.Decides.{nat_tests}
use Rattle.std.proofs.lemmas.List.{length-map}
use Rattle.sigtext.specs.declared.encode.Slash.{Slash}
use Rattle.sigtext.specs.declared.encode.Slash.TheVariants.{Kept, Encoded}
use Rattle.sigtext.specs.Bytes.{AreBytes}
use Rattle.sigtext.specs.CanonicalQuery.{param_text}
use Rattle.sigtext.specs.Spelling.{may_stand, SpellsByte, raw, escaped, Spells}
use Rattle.sigtext.specs.Target.{Param, SpellsParam, SpellsParams, BeginsWithSlash, IsTargetOf}
use Rattle.sigtext.specs.UriEncode.{stays, escape, encoded_byte, uri_encoded}

-- ---- one byte

-- the two digits of an escape are read back
digit_back : (d : ℕ) → d < 16 → digit_value (digit_glyph true d) ≡ d
digit_back d small = eqb-true _ _ (agree_below_at (λ x. eqb (digit_value (digit_glyph true x)) x) (λ x. true) 16 d refl small)

glyph_is_digit : (d : ℕ) → d < 16 → is_digit (digit_glyph true d) 16 ≡ true
glyph_is_digit d small = agree_below_at (λ x. is_digit (digit_glyph true x) 16) (λ x. true) 16 d refl small

escape_spells : (barred : List ℕ) (b : ℕ) → b < 256 → SpellsByte barred (escape b) b
escape_spells barred b small =
    let high : b / 16 < 16 = omega (arith, small) in
    let low : b % 16 < 16 = omega arith in
    let value : 16 * digit_value (digit_glyph true (b / 16)) + digit_value (digit_glyph true (b % 16)) ≡ b =
    ap (λ (x : ℕ). 16 * x + digit_value (digit_glyph true (b % 16))) (digit_back (b / 16) high)
    ∙ ap (λ (x : ℕ). 16 * (b / 16) + x) (digit_back (b % 16) low) ∙ omega arith in
    subst (SpellsByte barred (escape b)) value (escaped _ _ (glyph_is_digit (b / 16) high) (glyph_is_digit (b % 16) low))

byte_spells : (slash : Slash) (barred : List ℕ) (b : ℕ) → (IsTrue (stays slash b) → IsTrue (may_stand barred b)) → b < 256 → SpellsByte barred (encoded_byte slash b) b
byte_spells slash barred b stand small = by (stays slash b) stand
  where
    by : (test : Bool) → (IsTrue test → IsTrue (may_stand barred b)) → SpellsByte barred (cond test (b ∷ []) (escape b)) b
    by true h = raw b (h refl)
    by false h = escape_spells barred b small

-- ---- a text

-- the encoded text spells the bytes, if each byte that is kept may stand for itself
pub encoded_spells : (slash : Slash) (barred bytes : List ℕ) → ((b : ℕ) → IsTrue (stays slash b) → IsTrue (may_stand barred b)) → AreBytes bytes → Spells barred (uri_encoded slash bytes) bytes
unfolding uri_encoded
encoded_spells slash barred [] stand small = refl
encoded_spells slash barred (b ∷ bytes) stand small =
    (encoded_byte slash b, uri_encoded slash bytes, refl, byte_spells slash barred b (stand b) small.0, encoded_spells slash barred bytes stand small.1)

-- bytes that are kept in a path, a name or a value may stand for themselves there
pub path_stands : (b : ℕ) → IsTrue (stays Kept b) → IsTrue (may_stand (63 ∷ []) b)
path_stands b h = grind (arith, nat_tests)

pub name_stands : (b : ℕ) → IsTrue (stays Encoded b) → IsTrue (may_stand (38 ∷ 61 ∷ []) b)
name_stands b h = grind (arith, nat_tests)

pub value_stands : (b : ℕ) → IsTrue (stays Encoded b) → IsTrue (may_stand (38 ∷ []) b)
value_stands b h = grind (arith, nat_tests)

-- ---- a target

-- a parameter that can be written: its name and value are bytes, and the name is not empty
abbrev pub IsWritable : Param → Type 0
IsWritable p = (0 < length p.name) × AreBytes p.name × AreBytes p.value

param_spelled : (p : Param) → IsWritable p → SpellsParam (param_text p) p
param_spelled p (some, name, value) = (
  some,
  inr (
    uri_encoded Encoded p.name,
    uri_encoded Encoded p.value,
    refl,
    encoded_spells Encoded (38 ∷ 61 ∷ []) p.name name_stands name,
    encoded_spells Encoded (38 ∷ []) p.value value_stands value,
  ),
)

params_spelled : (params : List Param) → AllByRecursion IsWritable params → SpellsParams (map param_text params) params
params_spelled [] w = tt
params_spelled (p ∷ params) w = (param_spelled p w.0, params_spelled params w.1)

begins_encoded : (path : List ℕ) → BeginsWithSlash path → (query : List ℕ) → BeginsWithSlash (uri_encoded Kept path ++ 63 ∷ query)
unfolding uri_encoded
begins_encoded path (rest, is) query =
    (uri_encoded Kept rest ++ 63 ∷ query, ap (λ (t : List ℕ). uri_encoded Kept t ++ 63 ∷ query) is)

-- the encoded path, `?` and the texts of the parameters, joined by `&`, are a target of the path and the parameters
pub target_spelled : (path : List ℕ) (params : List Param) → BeginsWithSlash path → AreBytes path → 0 < length params → AllByRecursion IsWritable params
    → IsTargetOf (uri_encoded Kept path ++ 63 ∷ join_with_byte 38 (map param_text params)) path params
target_spelled path params slash small some w =
    let query = join_with_byte 38 (map param_text params) in
    let long : 0 < length (map param_text params) = omega (arith, some, length-map params param_text) in (
      begins_encoded path slash query,
      inr (
        uri_encoded Kept path,
        query,
        refl,
        encoded_spells Kept (63 ∷ []) path path_stands small,
        (map param_text params, long, refl, params_spelled params w),
      ),
    )
