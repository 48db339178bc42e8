-- Which links are admitted.
use Rattle.std.specs.Prelude.{◌≡◌, ℕ, Bool, IsFalse, List, ⊤, Option, Some, IsSome, IfSome}
use Rattle.sigtext.specs.declared.refusal.Refusal.{Refusal}
use Rattle.sigtext.specs.declared.refusal.Refusal.TheVariants as rule
use Rattle.sigtext.specs.Request.{Request}
use Rattle.sigtext.specs.CanonicalRequest.{Signed, IsCanonicalRequest}
use Rattle.sigv4.specs.Signature.{signature_of}
use Rattle.links.specs.WellFormed.{LinkValues, IsWellFormed}
use Rattle.links.specs.Moments.{Now, HasBegun, IsNotOver}

-- the part of the request that the signature covers
abbrev pub signed_of : Request → LinkValues → Signed
signed_of r p = record { method = r.method; path = p.path; params = p.params; headers = p.signed }

-- the signature text is the signature of the canonical request under this secret
pub record IsSignedBy (secret : List ℕ) (r : Request) (p : LinkValues) : Type 0 where
  pub text : List ℕ
  pub is_canonical : IsCanonicalRequest (signed_of r p) text
  pub same : p.signature ≡ signature_of secret p.date p.scope text

-- what a state says about a key id
pub record KnownKey : Type 0 where
  pub secret : List ℕ
  pub revoked : Bool

-- the rules 19 to 23, given what the state says about the link's key id
abbrev pub LinkRule : Refusal → Option KnownKey → Request → Now → LinkValues → Type 0
LinkRule rule.KeyUnknown key r n p = IsSome key
LinkRule rule.KeyRevoked key r n p = IfSome key (λ k. IsFalse k.revoked)
LinkRule rule.SignatureMismatch key r n p = IfSome key (λ k. IsSignedBy k.secret r p)
LinkRule rule.NotYetValid key r n p = HasBegun n p.start
LinkRule rule.Expired key r n p = IsNotOver n p.start p.expires
LinkRule _ key r n p = ⊤

-- the link is well formed, its key exists and is not revoked, its signature is the one that the standard gives, and the moment
-- lies in its window. look_up: what the state says about a key id
pub record Admits (look_up : List ℕ → Option KnownKey) (r : Request) (n : Now) : Type 0 where
  pub parts : LinkValues
  pub well_formed : IsWellFormed r parts
  pub key : KnownKey
  pub there : look_up parts.key_id ≡ Some key
  pub unrevoked : IsFalse key.revoked
  pub signed : IsSignedBy key.secret r parts
  pub begun : HasBegun n parts.start
  pub not_over : IsNotOver n parts.start parts.expires
