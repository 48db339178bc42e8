-- The meaning of the test of a link's signature.
use Rattle.std.proofs.Common.{◌≡◌, ℕ, Bool, true, false, List, Result, Ok, Err, sym, ap, subst, ◌∙◌}
use Rattle.std.specs.Prelude.{IsTrue, ◌↔◌}
use Rattle.sigtext.specs.declared.refusal.Refusal.{Refusal}
use Rattle.sigtext.specs.declared.refusal.Refusal.TheVariants as rule
use Rattle.sigtext.specs.Request.{Request}
use Rattle.sigtext.specs.CanonicalRequest.{Signed, IsCanonicalRequest, IsTheOnly}
use Rattle.sigtext.specs.Signing.{AreOf}
use Rattle.sigv4.specs.Dates.{WritesMoment}
use Rattle.sigv4.specs.Signature.{CredentialScope, signature_of}
use Rattle.links.specs.WellFormed.{LinkValues}
use Rattle.links.specs.Admits.{IsSignedBy, signed_of}
use Rattle.links.specs.SixValues.{texts_of}
use Rattle.links.specs.Judging.{FailsAt, IsOutside, Judges, LiesIn}
use Rattle.links.specs.LinkReadings.{IsLinkOf}
use Rattle.links.specs.Moments.{Now}
use Rattle.links.specs.declared.link_parts.LinkParts.{LinkParts}

-- the test tells whether the signature is that of the only canonical request
abbrev pub DecidesSignature : Bool → LinkParts → List ℕ → CredentialScope → Type 0
DecidesSignature right l secret scope =
    (signed : Signed) → AreOf l.parts signed
    → (text : List ℕ) × IsTheOnly (IsCanonicalRequest signed) text × ((date : List ℕ) → WritesMoment date l.start
    → (IsTrue right ↔ ((texts_of l.six).signature ≡ signature_of secret date scope text)))

date_of : (l : LinkParts) (r : Request) (p : LinkValues) → IsLinkOf l r p → WritesMoment p.date l.start
date_of l r p is = subst (WritesMoment p.date) is.start (is.well_formed rule.Date).1

pub is_signed : (l : LinkParts) (r : Request) (p : LinkValues) (secret : List ℕ) (scope : CredentialScope) (right : Bool) → IsLinkOf l r p → scope ≡ p.scope
    → right ≡ true → DecidesSignature right l secret scope → IsSignedBy secret r p
is_signed l r p secret scope right is same holds tells =
    let (text, only, means) = tells (signed_of r p) is.signed in
    record {
      text = text;
      is_canonical = only.holds;
      same = is.signature ∙ (means p.date (date_of l r p is)).0 holds ∙ ap (λ (s : CredentialScope). signature_of secret p.date s text) same;
    }

pub not_signed : (l : LinkParts) (r : Request) (p : LinkValues) (secret : List ℕ) (scope : CredentialScope) (right : Bool) → IsLinkOf l r p → scope ≡ p.scope
    → right ≡ false → DecidesSignature right l secret scope → IsSignedBy secret r p → ⊥
not_signed l r p secret scope right is same fails tells signed =
    let (text, only, means) = tells (signed_of r p) is.signed in
    let one = only.only signed.text signed.is_canonical in
    let equal = sym is.signature ∙ signed.same ∙ ap (signature_of secret p.date p.scope) one ∙ ap (λ (s : CredentialScope). signature_of secret p.date s text) (sym same) in
    differs (sym fails ∙ (means p.date (date_of l r p is)).1 equal)
  where
    differs : false ≡ true → ⊥
    differs e = cc

-- a link is judged by its signature, and then by its window
pub judged_unsigned : (secret : List ℕ) (r : Request) (n : Now) (p : LinkValues) (q : Refusal) → q ≡ rule.SignatureMismatch → (IsSignedBy secret r p → ⊥) → FailsAt q secret r n p
judged_unsigned secret r n p q is fails = subst (λ (x : Refusal). FailsAt x secret r n p) (sym is) fails

outside : (secret : List ℕ) (r : Request) (n : Now) (p : LinkValues) (q : Refusal) → IsSignedBy secret r p → IsOutside q n p → FailsAt q secret r n p
outside secret r n p rule.NotYetValid signed fails = (signed, fails)
outside secret r n p rule.Expired signed fails = (signed, fails.0, fails.1)
outside secret r n p _ signed fails = absurd fails

pub judged_signed : {T : Type 0} (secret : List ℕ) (r : Request) (n : Now) (p : LinkValues) (result : Result T Refusal) → IsSignedBy secret r p → LiesIn n p result → Judges secret r n p result
judged_signed secret r n p (Ok done) signed lies = (signed, lies.0, lies.1)
judged_signed secret r n p (Err q) signed lies = outside secret r n p q signed lies
