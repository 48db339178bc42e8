-- Signature Version 4 (Amazon S3 API Reference, "Authenticating Requests: Using Query Parameters"):
-- the credential scope, the string to sign (task 2), the signing key and the signature (task 3).
use Rattle.std.specs.Prelude.{ℕ, List, ◌∷◌, ◌++◌, codes}
use Rattle.sha2.specs.Sha256.{sha256}
use Rattle.hex.specs.Hex.{encode_lower}
use Rattle.sigv4.specs.Hmac.{hmac}

-- the parts of a credential scope that are not fixed: the day, yyyyMMdd, and the region
pub record CredentialScope : Type 0 where
  pub date : List ℕ
  pub region : List ℕ

-- yyyyMMdd/region/s3/aws4_request
abbrev pub scope_text : CredentialScope → List ℕ
scope_text s = s.date ++ 47 ∷ s.region ++ codes "/s3/aws4_request"

-- moment: the request's date and time, as X-Amz-Date writes it
unfoldable pub string_to_sign : List ℕ → CredentialScope → List ℕ → List ℕ
string_to_sign moment scope canonical =
    codes "AWS4-HMAC-SHA256" ++ 10 ∷ moment ++ 10 ∷ scope_text scope ++ 10 ∷ encode_lower (sha256 canonical)

unfoldable pub signing_key : List ℕ → CredentialScope → List ℕ
signing_key secret scope =
    hmac (hmac (hmac (hmac (codes "AWS4" ++ secret) scope.date) scope.region) (codes "s3")) (codes "aws4_request")

-- the signature of a canonical request
unfoldable pub signature_of : List ℕ → List ℕ → CredentialScope → List ℕ → List ℕ
signature_of secret moment scope canonical =
    encode_lower (hmac (signing_key secret scope) (string_to_sign moment scope canonical))
