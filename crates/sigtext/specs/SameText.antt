-- Signed requests that differ only in the order of their parameters, and the requests that are determined by their
-- canonical text.
use Rattle.std.specs.Prelude.{◌≡◌, ◌≢◌, ℕ, List, IsPermutation}
use Rattle.std.specs.List.{AllByRecursion}
use Rattle.sigtext.specs.Bytes.{AreBytes}
use Rattle.sigtext.specs.CanonicalQuery.{signed_params}
use Rattle.sigtext.specs.CanonicalRequest.{Signed}
use Rattle.sigtext.specs.SignedHeaders.{Header}
use Rattle.sigtext.specs.SignedNames.{IsHeaderName}
use Rattle.sigtext.specs.SignedValues.{IsFitValue}
use Rattle.sigtext.specs.Target.{Param}

-- no line feed among the bytes
abbrev pub IsOneLine : List ℕ → Type 0
IsOneLine text = AllByRecursion (λ b. b ≢ 10) text

-- name and value are any bytes
pub record IsPlainParam (p : Param) : Type 0 where
  pub name_bytes : AreBytes p.name
  pub value_bytes : AreBytes p.value

-- name and value have the forms of a signed header
pub record IsPlainHeader (h : Header) : Type 0 where
  pub name_form : IsHeaderName h.name
  pub value_form : IsFitValue h.value

-- the method is one line, the path and the signed parameters are bytes, and the headers are well formed
pub record IsPlain (r : Signed) : Type 0 where
  pub method : IsOneLine r.method
  pub path : AreBytes r.path
  pub params : AllByRecursion IsPlainParam (signed_params r.params)
  pub headers : AllByRecursion IsPlainHeader r.headers

-- method, path, signed headers and signed parameters are the same; the parameters may differ in order
pub record AreSameSigned (a b : Signed) : Type 0 where
  pub method : a.method ≡ b.method
  pub path : a.path ≡ b.path
  pub params : IsPermutation (signed_params a.params) (signed_params b.params)
  pub headers : a.headers ≡ b.headers
