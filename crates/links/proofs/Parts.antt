-- A request has at most one list of parts, and the rules before those about the key determine it.
use Rattle.std.proofs.Common.{◌≡◌, ℕ, ◌<◌, List, map, refl, subst, arith}
use Rattle.std.specs.Prelude.{codes}
use Rattle.sigtext.specs.declared.refusal.Refusal.{Refusal}
use Rattle.sigtext.specs.declared.refusal.Refusal.TheVariants as rule
use Rattle.sigtext.specs.Refusals.{number_of}
use Rattle.sigtext.specs.Request.{Request}
use Rattle.sigtext.specs.SignedHeaders.{AreSignedValues}
use Rattle.sigtext.specs.SignedNames.{AreSignedNames}
use Rattle.sigtext.proofs.NamesOnce.{names_once}
use Rattle.sigtext.proofs.Uniqueness.{target_once, values_once}
use Rattle.sigv4.specs.Credential.{IsCredential}
use Rattle.sigv4.specs.Dates.{WritesMoment}
use Rattle.sigv4.proofs.Credentials.{credential_once}
use Rattle.sigv4.proofs.Moments.{moment_once}
use Rattle.links.specs.Forms.{IsExpiry}
use Rattle.links.specs.WellFormed.{LinkValues, HeadRule, IsWellFormed}
use Rattle.links.proofs.Values.{value_same, expiry_once}

-- the rules below 19 hold for the parts
abbrev pub HoldBeforeKey : Request → LinkValues → Type 0
HoldBeforeKey r p = (x : Refusal) → number_of x < 19 → HeadRule x r p

-- the other rules say nothing about the parts
pub well_formed_before : (r : Request) (p : LinkValues) → HoldBeforeKey r p → IsWellFormed r p
well_formed_before r p h rule.Method = h rule.Method (omega arith)
well_formed_before r p h rule.Target = h rule.Target (omega arith)
well_formed_before r p h rule.NotSigned = h rule.NotSigned (omega arith)
well_formed_before r p h rule.Parameters = h rule.Parameters (omega arith)
well_formed_before r p h rule.Algorithm = h rule.Algorithm (omega arith)
well_formed_before r p h rule.Credential = h rule.Credential (omega arith)
well_formed_before r p h rule.Date = h rule.Date (omega arith)
well_formed_before r p h rule.Expiry = h rule.Expiry (omega arith)
well_formed_before r p h rule.SignedHeaders = h rule.SignedHeaders (omega arith)
well_formed_before r p h rule.SignatureText = h rule.SignatureText (omega arith)
well_formed_before r p h rule.SignedValues = h rule.SignedValues (omega arith)
well_formed_before r p h rule.HeaderNotSigned = h rule.HeaderNotSigned (omega arith)
well_formed_before r p h _ = tt

same_parts : (p q : LinkValues) → q.path ≡ p.path → q.params ≡ p.params → q.key_id ≡ p.key_id → q.scope ≡ p.scope → q.date ≡ p.date → q.start ≡ p.start
    → q.expires ≡ p.expires → q.signed ≡ p.signed → q.signature ≡ p.signature → q ≡ p
same_parts p q path params key scope date start expires signed signature =
    let whole : record {
      path = q.path;
      params = q.params;
      key_id = q.key_id;
      scope = q.scope;
      date = q.date;
      start = q.start;
      expires = q.expires;
      signed = q.signed;
      signature = q.signature;
    } ≡ p = rw (path, params, key, scope, date, start, expires, signed, signature) refl in
    whole

-- ---- each part

key_once : (r : Request) (p q : LinkValues) → q.params ≡ p.params → IsWellFormed r p → IsWellFormed r q → (q.key_id ≡ p.key_id) × (q.scope ≡ p.scope)
key_once r p q same h k =
    let (text, date, has, has_date, is) = h rule.Credential in
    let (text', date', has', has_date', is') = k rule.Credential in
    let one = value_same p.params q.params (codes "X-Amz-Credential") text text' same has has' in
    let day = value_same p.params q.params (codes "X-Amz-Date") date date' same has_date has_date' in
    credential_once text date p.key_id q.key_id p.scope q.scope is
    (subst (λ (t : List ℕ). IsCredential t date q.key_id q.scope) one (subst (λ (d : List ℕ). IsCredential text' d q.key_id q.scope) day is'))

date_once : (r : Request) (p q : LinkValues) → q.params ≡ p.params → IsWellFormed r p → IsWellFormed r q → q.date ≡ p.date
date_once r p q same h k = value_same p.params q.params (codes "X-Amz-Date") p.date q.date same (h rule.Date).0 (k rule.Date).0

start_once : (r : Request) (p q : LinkValues) → q.date ≡ p.date → IsWellFormed r p → IsWellFormed r q → q.start ≡ p.start
start_once r p q date h k = moment_once p.date p.start q.start (h rule.Date).1 (subst (λ (d : List ℕ). WritesMoment d q.start) date (k rule.Date).1)

expires_once : (r : Request) (p q : LinkValues) → q.params ≡ p.params → IsWellFormed r p → IsWellFormed r q → q.expires ≡ p.expires
expires_once r p q same h k =
    let (text, has, is) = h rule.Expiry in
    let (text', has', is') = k rule.Expiry in
    let one = value_same p.params q.params (codes "X-Amz-Expires") text text' same has has' in
    expiry_once text p.expires q.expires is (subst (λ (t : List ℕ). IsExpiry t q.expires) one is')

signed_names : LinkValues → List (List ℕ)
signed_names p = map (λ s. s.name) p.signed

headers_once : (r : Request) (p q : LinkValues) → q.params ≡ p.params → IsWellFormed r p → IsWellFormed r q → q.signed ≡ p.signed
unfolding signed_names
headers_once r p q same h k =
    let (text, has, are) = h rule.SignedHeaders in
    let (text', has', are') = k rule.SignedHeaders in
    let one = value_same p.params q.params (codes "X-Amz-SignedHeaders") text text' same has has' in
    let names : signed_names q ≡ signed_names p = names_once text (signed_names p) (signed_names q) are (subst (λ (t : List ℕ). AreSignedNames t (signed_names q)) one are') in
    values_once r.headers (signed_names p) p.signed q.signed (h rule.SignedValues).0
    (subst (λ (ns : List (List ℕ)). AreSignedValues r.headers ns q.signed) names (k rule.SignedValues).0)

signature_once : (r : Request) (p q : LinkValues) → q.params ≡ p.params → IsWellFormed r p → IsWellFormed r q → q.signature ≡ p.signature
signature_once r p q same h k = value_same p.params q.params (codes "X-Amz-Signature") p.signature q.signature same (h rule.SignatureText).0 (k rule.SignatureText).0

-- ---- all of them

pub parts_once : (r : Request) (p q : LinkValues) → IsWellFormed r p → IsWellFormed r q → q ≡ p
parts_once r p q h k =
    let (path, params) = target_once r.target p.path q.path p.params q.params (h rule.Target) (k rule.Target) in
    let (key, scope) = key_once r p q params h k in
    let date = date_once r p q params h k in
    let start = start_once r p q date h k in
    let expires = expires_once r p q params h k in
    let signed = headers_once r p q params h k in
    let signature = signature_once r p q params h k in
    same_parts p q path params key scope date start expires signed signature

-- parts that obey the rules before those about the key are the parts of the well-formed request
pub parts_before : (r : Request) (p q : LinkValues) → IsWellFormed r p → HoldBeforeKey r q → q ≡ p
parts_before r p q h before = parts_once r p q h (well_formed_before r q before)
