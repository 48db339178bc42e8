-- `percent_encode` with the crate's two sets is UriEncode.
use Rattle.std.proofs.Common.{◌≡◌, ℕ, ◌<◌, ◌/◌, ◌%◌, Bool, true, false, not, cond, List, [], ◌∷◌, ◌++◌, All, refl, ap, ◌∙◌, arith}
use Rattle.std.proofs.lemmas.Bool.{agree_below_at}
use Rattle.std.proofs.lemmas.List.Elements.{All-head, All-tail}
use Rattle.percent_encoding.specs.declared.ascii_set.AsciiSet.{AsciiSet}
use Rattle.percent_encoding.specs.AsciiSet.{should_percent_encode}
use Rattle.percent_encoding.specs.Percent.{percent_encode_byte, encode_byte, percent_encode}
use Rattle.sigtext.specs.declared.encode.Slash.{Slash}
use Rattle.sigtext.specs.declared.encode.Slash.TheVariants.{Kept, Encoded}
use Rattle.sigtext.specs.declared.encode.TheConstants.{ESCAPED, ESCAPED_BUT_SLASH}
use Rattle.sigtext.specs.UriEncode.{stays, escape, encoded_byte, uri_encoded, EscapesTheRest}

pub encoded_table : EscapesTheRest Encoded ESCAPED
unfolding should_percent_encode EscapesTheRest
encoded_table b small = agree_below_at (should_percent_encode ESCAPED) (λ x. not (stays Encoded x)) 256 b refl small

pub kept_table : EscapesTheRest Kept ESCAPED_BUT_SLASH
unfolding should_percent_encode EscapesTheRest
kept_table b small = agree_below_at (should_percent_encode ESCAPED_BUT_SLASH) (λ x. not (stays Kept x)) 256 b refl small

turned : {A : Type 0} (s : Bool) (x y : A) → cond (not s) x y ≡ cond s y x
turned true x y = refl
turned false x y = refl

escape-is : (b : ℕ) → b < 256 → percent_encode_byte b ≡ escape b
unfolding percent_encode_byte
escape-is b small = let high : b / 16 % 16 ≡ b / 16 = omega arith in rw high refl

byte-is : (slash : Slash) (set : AsciiSet) (b : ℕ) → EscapesTheRest slash set → b < 256 → encode_byte set b ≡ encoded_byte slash b
unfolding EscapesTheRest
byte-is slash set b rest small =
    ap (λ t. cond t (percent_encode_byte b) (b ∷ [])) (rest b small)
    ∙ turned (stays slash b) (percent_encode_byte b) (b ∷ [])
    ∙ ap (cond (stays slash b) (b ∷ [])) (escape-is b small)

-- for a set that escapes exactly the bytes that do not stay
pub percent_encode-is : (slash : Slash) (set : AsciiSet) (bytes : List ℕ) → EscapesTheRest slash set → All (λ b. b < 256) bytes → percent_encode set bytes ≡ uri_encoded slash bytes
unfolding percent_encode uri_encoded
percent_encode-is slash set [] rest small = refl
percent_encode-is slash set (b ∷ bytes) rest small =
    ap (λ t. t ++ percent_encode set bytes) (byte-is slash set b rest (All-head (λ x. x < 256) b bytes small))
    ∙ ap (λ t. encoded_byte slash b ++ t) (percent_encode-is slash set bytes rest (All-tail (λ x. x < 256) b bytes small))
