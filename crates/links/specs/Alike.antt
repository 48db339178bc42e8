-- Requests with the same signed text, and what such requests have in common.
use Rattle.std.specs.Prelude.{◌≡◌, ℕ, List, IsPermutation}
use Rattle.sigtext.specs.CanonicalQuery.{signed_params}
use Rattle.sigtext.specs.CanonicalRequest.{IsCanonicalRequest}
use Rattle.sigtext.specs.Request.{Request}
use Rattle.links.specs.Admits.{signed_of}
use Rattle.links.specs.WellFormed.{LinkValues}

-- the same text is the canonical request of both
pub record SameText (r s : Request) (p q : LinkValues) : Type 0 where
  pub text : List ℕ
  pub one : IsCanonicalRequest (signed_of r p) text
  pub other : IsCanonicalRequest (signed_of s q) text

-- all that the rules find is the same, except the signature; the parameters without it may be in any order
pub record SaysTheSame (r s : Request) (p q : LinkValues) : Type 0 where
  pub method : r.method ≡ s.method
  pub path : p.path ≡ q.path
  pub params : IsPermutation (signed_params p.params) (signed_params q.params)
  pub key_id : p.key_id ≡ q.key_id
  pub scope : p.scope ≡ q.scope
  pub date : p.date ≡ q.date
  pub start : p.start ≡ q.start
  pub expires : p.expires ≡ q.expires
  pub signed : p.signed ≡ q.signed
