-- A request has one canonical text, so any such text decides whether the signature is right.
use Rattle.std.proofs.Common.{◌≡◌, ◌≢◌, ℕ, List, ap, ◌∙◌, subst}
use Rattle.sigtext.specs.Request.{Request}
use Rattle.sigtext.specs.CanonicalRequest.{IsCanonicalRequest}
use Rattle.sigtext.proofs.Uniqueness.{canonical_once}
use Rattle.sigv4.specs.Signature.{signature_of}
use Rattle.links.specs.WellFormed.{LinkValues}
use Rattle.links.specs.Admits.{signed_of, IsSignedBy}

-- the signature of a signed request is the signature of each of its canonical texts
pub signed_once : (secret : List ℕ) (r : Request) (p q : LinkValues) (text : List ℕ) → q ≡ p → IsSignedBy secret r q → IsCanonicalRequest (signed_of r p) text
    → p.signature ≡ signature_of secret p.date p.scope text
signed_once secret r p q text same signed canonical =
    let here = subst (IsSignedBy secret r) same signed in
    here.same ∙ ap (signature_of secret p.date p.scope) (canonical_once (signed_of r p) text here.text canonical here.is_canonical)

-- so if the signatures differ, the request is not signed
pub not_signed : (secret : List ℕ) (r : Request) (p q : LinkValues) (text : List ℕ) → q ≡ p → IsCanonicalRequest (signed_of r p) text
    → (p.signature ≢ signature_of secret p.date p.scope text) → IsSignedBy secret r q → ⊥
not_signed secret r p q text same canonical other signed = other (signed_once secret r p q text same signed canonical)
