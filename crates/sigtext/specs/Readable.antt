-- Requests that memory is taken for.
use Rattle.std.specs.Prelude.{ℕ, Bool, ◌&&◌, not, IsTrue, IsFalse, List, [], ◌∷◌, codes}
use Rattle.std.specs.List.{list_any}
use Rattle.sigtext.specs.Bytes.{same_bytes, begins_with}
use Rattle.sigtext.specs.Request.{Request}
use Rattle.sigtext.specs.Target.{Param, IsTargetOf}

-- the methods that are served
abbrev pub methods : List (List ℕ)
methods = codes "PUT" ∷ codes "GET" ∷ codes "HEAD" ∷ codes "POST" ∷ []

-- the six signing parameters
abbrev pub signing_names : List (List ℕ)
signing_names =
    codes "X-Amz-Algorithm" ∷ codes "X-Amz-Credential" ∷ codes "X-Amz-Date" ∷ codes "X-Amz-Expires"
    ∷ codes "X-Amz-SignedHeaders" ∷ codes "X-Amz-Signature" ∷ []

abbrev pub is_signing_name : List ℕ → Bool
is_signing_name name = list_any (same_bytes name) signing_names

-- a name that begins with `X-Amz-` and is none of the six
abbrev pub is_other_amz_name : List ℕ → Bool
is_other_amz_name name = begins_with name (codes "X-Amz-") && not (is_signing_name name)

-- one of the six is present, and no other name begins with `X-Amz-`
abbrev pub HaveNames : List Param → Type 0
HaveNames params = IsTrue (list_any (λ p. is_signing_name p.name) params) × IsFalse (list_any (λ p. is_other_amz_name p.name) params)

-- the method is known, the target can be read, one of the six signing parameters is present, and no other
-- name begins with `X-Amz-`
pub record IsReadable (r : Request) : Type 0 where
  pub served : IsTrue (list_any (same_bytes r.method) methods)
  pub path : List ℕ
  pub params : List Param
  pub target : IsTargetOf r.target path params
  pub named : HaveNames params
