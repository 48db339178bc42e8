-- The canonical query string (Amazon S3 API Reference, "Authenticating Requests: Using Query
-- Parameters", task 1).
use Rattle.std.specs.Prelude.{◌≡◌, ℕ, List, [], ◌∷◌, ◌++◌, map, filter, not, codes, IsPermutation, Bool, true, ◌&&◌, IsTrue}
use Rattle.std.specs.List.{join_with_byte}
use Rattle.std.specs.Ordering.{is_lt}
use Rattle.sigtext.specs.declared.encode.Slash.TheVariants.{Encoded}
use Rattle.sigtext.specs.Bytes.{same_bytes, bytes_cmp}
use Rattle.sigtext.specs.UriEncode.{uri_encoded}
use Rattle.sigtext.specs.Target.{Param}

-- the signed parameters: all but the signature itself
abbrev pub signed_params : List Param → List Param
signed_params params = filter (λ p. not (same_bytes p.name (codes "X-Amz-Signature"))) params

-- the encoded name, `=` and the encoded value
abbrev pub param_text : Param → List ℕ
param_text p = uri_encoded Encoded p.name ++ 61 ∷ uri_encoded Encoded p.value

-- each text is less than the next
abbrev pub ascends : List (List ℕ) → Bool
ascends [] = true
ascends (x ∷ []) = true
ascends (x ∷ y ∷ ys) = is_lt (bytes_cmp x y) && ascends (y ∷ ys)

-- the encoded names ascend strictly
abbrev pub Ascend : List Param → Type 0
Ascend params = IsTrue (ascends (map (λ p. uri_encoded Encoded p.name) params))

-- the text of the signed parameters, rearranged so that their encoded names ascend strictly
pub record IsCanonicalQuery (params : List Param) (text : List ℕ) : Type 0 where
  pub ordered : List Param
  pub rearranged : IsPermutation (signed_params params) ordered
  pub ascend : Ascend ordered
  pub joined : text ≡ join_with_byte 38 (map param_text ordered)
