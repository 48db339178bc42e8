-- The rules for a request's method, target and fields, which do not depend on what the office stores (Amazon S3 API Reference,
-- "Authenticating Requests: Using Query Parameters").
use Rattle.std.specs.Prelude.{◌≡◌, ℕ, IsTrue, IsFalse, List, [], ◌∷◌, length, map, codes, ⊤}
use Rattle.std.specs.List.{list_all, list_any, AllByRecursion}
use Rattle.sigtext.specs.declared.refusal.Refusal.{Refusal}
use Rattle.sigtext.specs.declared.refusal.Refusal.TheVariants as rule
use Rattle.sigtext.specs.Bytes.{same_bytes}
use Rattle.sigtext.specs.Request.{Request}
use Rattle.sigtext.specs.Readable.{methods, signing_names, is_signing_name, is_other_amz_name}
use Rattle.sigtext.specs.Target.{Param, IsTargetOf}
use Rattle.sigtext.specs.Params.{params_named, StandOnce}
use Rattle.sigtext.specs.SignedHeaders.{Header, AreSignedValues}
use Rattle.sigtext.specs.SignedNames.{AreSignedNames}
use Rattle.sigtext.specs.SignedValues.{IsFitValue, is_covered}
use Rattle.sigv4.specs.Signature.{CredentialScope}
use Rattle.sigv4.specs.Credential.{IsCredential}
use Rattle.sigv4.specs.Dates.{WritesMoment}
use Rattle.links.specs.Forms.{IsExpiry, IsHexDigest}

-- what the rules find in a request
pub record LinkValues : Type 0 where
  pub path : List ℕ  -- decoded
  pub params : List Param
  pub key_id : List ℕ
  pub scope : CredentialScope
  pub date : List ℕ  -- as written
  pub start : ℕ  -- the date in seconds
  pub expires : ℕ  -- in seconds
  pub signed : List Header  -- the signed names and values
  pub signature : List ℕ

-- exactly one parameter has this name, and this is its value
abbrev pub HasValue : List Param → List ℕ → List ℕ → Type 0
HasValue params name value = params_named name params ≡ record { name = name; value = value } ∷ []

-- each of the six is present exactly once
abbrev pub AreThere : List Param → Type 0
AreThere params = AllByRecursion (λ name. length (params_named name params) ≡ 1) signing_names

-- each name occurs once, the six are present, and no other name begins with `X-Amz-`
pub record AreTheSix (params : List Param) : Type 0 where
  pub once : StandOnce params
  pub there : AreThere params
  pub no_other : IsFalse (list_any (λ p. is_other_amz_name p.name) params)

-- the rules 7 to 18; a refusal with another number has no rule here
abbrev pub HeadRule : Refusal → Request → LinkValues → Type 0
HeadRule rule.Method r p = IsTrue (list_any (same_bytes r.method) methods)
HeadRule rule.Target r p = IsTargetOf r.target p.path p.params
HeadRule rule.NotSigned r p = IsTrue (list_any (λ q. is_signing_name q.name) p.params)
HeadRule rule.Parameters r p = AreTheSix p.params
HeadRule rule.Algorithm r p = HasValue p.params (codes "X-Amz-Algorithm") (codes "AWS4-HMAC-SHA256")
HeadRule rule.Credential r p =
    (text date : List ℕ) × HasValue p.params (codes "X-Amz-Credential") text
    × HasValue p.params (codes "X-Amz-Date") date × IsCredential text date p.key_id p.scope
HeadRule rule.Date r p = HasValue p.params (codes "X-Amz-Date") p.date × WritesMoment p.date p.start
HeadRule rule.Expiry r p = (text : List ℕ) × HasValue p.params (codes "X-Amz-Expires") text × IsExpiry text p.expires
HeadRule rule.SignedHeaders r p =
    (text : List ℕ) × HasValue p.params (codes "X-Amz-SignedHeaders") text × AreSignedNames text (map (λ s. s.name) p.signed)
HeadRule rule.SignatureText r p = HasValue p.params (codes "X-Amz-Signature") p.signature × IsHexDigest p.signature
HeadRule rule.SignedValues r p =
    AreSignedValues r.headers (map (λ s. s.name) p.signed) p.signed × AllByRecursion (λ s. IsFitValue s.value) p.signed
HeadRule rule.HeaderNotSigned r p = IsTrue (list_all (is_covered p.signed) r.headers)
HeadRule _ r p = ⊤

-- the request is well formed, and these are its parts
abbrev pub IsWellFormed : Request → LinkValues → Type 0
IsWellFormed r p = (q : Refusal) → HeadRule q r p
