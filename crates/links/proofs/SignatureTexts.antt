-- The text of a signature has the form of a signature, and its bytes stay unchanged in a target.
use Rattle.std.proofs.Common.{◌≡◌, ℕ, ◌<◌, true, List, [], ◌∷◌, refl, arith}
use Rattle.std.specs.Prelude.{IsTrue}
use Rattle.std.specs.List.{list_all}
use Rattle.std.proofs.lemmas.Bool.{and_from, and_parts}
use Rattle.std.proofs.lemmas.Bool.Decides.{nat_tests}
use Rattle.sigtext.specs.declared.encode.Slash.TheVariants.{Encoded}
use Rattle.sigtext.specs.Bytes.{AreBytes}
use Rattle.sigtext.specs.UriEncode.{stays}
use Rattle.sigv4.specs.Signature.{CredentialScope, signature_of}
use Rattle.sigv4.proofs.Digests.{length-signature_of, signature_digits}
use Rattle.links.specs.Forms.{is_hex_digit, IsHexDigest}

-- a signature is 64 hexadecimal digits
pub written_signature : (secret date : List ℕ) (scope : CredentialScope) (text : List ℕ) → IsHexDigest (signature_of secret date scope text)
written_signature secret date scope text =
    record { long = length-signature_of secret date scope text; digits = signature_digits is_hex_digit refl secret date scope text }

-- ---- the bytes of a signature

digit_stays : (b : ℕ) → is_hex_digit b ≡ true → stays Encoded b ≡ true
digit_stays b h = grind (arith, nat_tests)

digit_small : (b : ℕ) → is_hex_digit b ≡ true → b < 256
digit_small b h = grind (arith, nat_tests)

digits_stay : (text : List ℕ) → IsTrue (list_all is_hex_digit text) → IsTrue (list_all (stays Encoded) text)
digits_stay [] h = refl
digits_stay (b ∷ text) h =
    let parts = and_parts (is_hex_digit b) (list_all is_hex_digit text) h in
    and_from _ _ (digit_stays b parts.0) (digits_stay text parts.1)

digits_small : (text : List ℕ) → IsTrue (list_all is_hex_digit text) → AreBytes text
digits_small [] h = tt
digits_small (b ∷ text) h =
    let parts = and_parts (is_hex_digit b) (list_all is_hex_digit text) h in
    (digit_small b parts.0, digits_small text parts.1)

-- the bytes of a signature stay unchanged
pub signature_stays : (sig : List ℕ) → IsHexDigest sig → IsTrue (list_all (stays Encoded) sig)
signature_stays sig h = digits_stay sig h.digits

pub signature_bytes : (sig : List ℕ) → IsHexDigest sig → AreBytes sig
signature_bytes sig h = digits_small sig h.digits
