-- The canonical request (Amazon S3 API Reference, "Authenticating Requests: Using Query Parameters",
-- task 1) with an unsigned payload.
use Rattle.std.specs.Prelude.{◌≡◌, ℕ, List, ◌∷◌, ◌++◌, codes}
use Rattle.sigtext.specs.declared.encode.Slash.TheVariants.{Kept}
use Rattle.sigtext.specs.UriEncode.{uri_encoded}
use Rattle.sigtext.specs.Target.{Param}
use Rattle.sigtext.specs.CanonicalQuery.{IsCanonicalQuery}
use Rattle.sigtext.specs.SignedHeaders.{Header, canonical_headers, signed_headers}

-- the parts that a signature covers: the method, the decoded path and parameters, and the signed headers
pub record Signed : Type 0 where
  pub method : List ℕ
  pub path : List ℕ
  pub params : List Param
  pub headers : List Header

-- the six parts; a line feed ends each but the last
unfoldable pub canonical_text : Signed → List ℕ → List ℕ
canonical_text r query =
    r.method ++ 10 ∷ uri_encoded Kept r.path ++ 10 ∷ query ++ 10 ∷ canonical_headers r.headers ++ 10 ∷ signed_headers r.headers ++ 10 ∷ codes "UNSIGNED-PAYLOAD"

-- the text that has the canonical query of the parameters
pub record IsCanonicalRequest (r : Signed) (text : List ℕ) : Type 0 where
  pub query : List ℕ
  pub is_query : IsCanonicalQuery r.params query
  pub is : text ≡ canonical_text r query

-- P holds for this text and for no other
pub record IsTheOnly (P : List ℕ → Type 0) (text : List ℕ) : Type 0 where
  pub holds : P text
  pub only : (other : List ℕ) → P other → other ≡ text
