-- The texts of which a link consists.
use Rattle.std.specs.Prelude.{◌≡◌, ℕ, List, ◌∷◌, ◌++◌, decimal, map, codes}
use Rattle.std.specs.List.{join_with_byte, AllByRecursion}
use Rattle.sigtext.specs.Bytes.{AreBytes}
use Rattle.sigtext.specs.CanonicalQuery.{param_text}
use Rattle.sigtext.specs.Target.{Param}
use Rattle.sigtext.specs.UriEncode.{uri_encoded}
use Rattle.sigtext.specs.declared.encode.Slash.TheVariants.{Kept}
use Rattle.sigv4.specs.Signature.{CredentialScope, scope_text}
use Rattle.links.specs.declared.writing.DraftTexts.{DraftTexts}

abbrev pub param : List ℕ → List ℕ → Param
param name value = record { name = name; value = value }

-- the values of the signing parameters, except the algorithm, which is fixed, and the signature
pub record DraftValues : Type 0 where
  pub credential : List ℕ
  pub date : List ℕ
  pub expires : List ℕ
  pub names : List ℕ

abbrev pub draft_values : DraftTexts → DraftValues
draft_values five = record { credential = five.credential.now; date = five.date.now; expires = five.expires.now; names = five.names.now }

-- the values for the key of this id, in this scope
abbrev pub values_for : List ℕ → CredentialScope → List ℕ → ℕ → List ℕ → DraftValues
values_for id scope date expires names = record { credential = id ++ 47 ∷ scope_text scope; date = date; expires = decimal expires; names = names }

-- the signing parameters except the signature, followed by the other parameters
abbrev pub draft_params : DraftValues → List Param → List Param
draft_params five others =
    param (codes "X-Amz-Algorithm") (codes "AWS4-HMAC-SHA256") ∷ param (codes "X-Amz-Credential") five.credential
    ∷ param (codes "X-Amz-Date") five.date ∷ param (codes "X-Amz-Expires") five.expires
    ∷ param (codes "X-Amz-SignedHeaders") five.names ∷ others

-- the name and the value are bytes
abbrev pub HasBytes : Param → Type 0
HasBytes p = AreBytes p.name × AreBytes p.value

-- the path and the parameters as UriEncode writes them
abbrev pub target_text : List ℕ → List Param → List ℕ
target_text path params = uri_encoded Kept path ++ 63 ∷ join_with_byte 38 (map param_text params)

-- the text is the target with this path and these parameters, all of bytes
pub record IsDraft (path : List ℕ) (params : List Param) (text : List ℕ) : Type 0 where
  pub path_bytes : AreBytes path
  pub param_bytes : AllByRecursion HasBytes params
  pub written : text ≡ target_text path params
