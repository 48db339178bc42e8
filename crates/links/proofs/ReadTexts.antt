-- The values of the signing parameters of a well-formed request, and what they say.
use Rattle.std.proofs.Common.{◌≡◌, ℕ, List, map, codes, refl, subst}
use Rattle.sigtext.specs.declared.refusal.Refusal.TheVariants as rule
use Rattle.sigtext.specs.Request.{Request}
use Rattle.sigtext.specs.SignedNames.{AreSignedNames}
use Rattle.sigv4.specs.Credential.{IsCredential}
use Rattle.sigv4.specs.Dates.{WritesMoment}
use Rattle.links.specs.Drafts.{DraftValues}
use Rattle.links.specs.Forms.{IsExpiry}
use Rattle.links.specs.WellFormed.{LinkValues, IsWellFormed}
use Rattle.links.proofs.SameParams.{HaveValues}
use Rattle.links.proofs.Values.{value_once}

pub record HasTexts (p : LinkValues) : Type 0 where
  pub five : DraftValues
  pub values : HaveValues five p.params
  pub date : p.date ≡ five.date
  pub says_scope : IsCredential five.credential five.date p.key_id p.scope
  pub says_start : WritesMoment five.date p.start
  pub says_expires : IsExpiry five.expires p.expires
  pub says_names : AreSignedNames five.names (map (λ s. s.name) p.signed)

pub texts_read : (r : Request) (p : LinkValues) → IsWellFormed r p → HasTexts p
texts_read r p h =
    let (credential, date, has, has_date, scope) = h rule.Credential in
    let (own_date, start) = h rule.Date in
    let (expires, has_expires, number) = h rule.Expiry in
    let (names, has_names, are_names) = h rule.SignedHeaders in
    let same = value_once p.params (codes "X-Amz-Date") p.date date own_date has_date in
    record {
      five = record { credential = credential; date = p.date; expires = expires; names = names };
      values = record {
        algorithm = h rule.Algorithm;
        credential = has;
        date = own_date;
        expires = has_expires;
        names = has_names;
      };
      date = refl;
      says_scope = subst (λ (d : List ℕ). IsCredential credential d p.key_id p.scope) same scope;
      says_start = start;
      says_expires = number;
      says_names = are_names;
    }
