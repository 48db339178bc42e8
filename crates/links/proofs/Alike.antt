-- Requests with the same signed text: their signed parts are the same, and say the same.
use Rattle.std.proofs.Common.{◌≡◌, ◌≢◌, ℕ, true, false, not, eqb, List, [], ◌∷◌, map, codes, refl, sym, ap, ◌∙◌, subst, All}
use Rattle.std.specs.Prelude.{IsTrue, IsPermutation}
use Rattle.std.specs.Char.{is_ascii_uppercase}
use Rattle.std.specs.List.{list_all, list_any, AllByRecursion}
use Rattle.std.proofs.lemmas.Bool.{eqb-false}
use Rattle.std.proofs.lemmas.List.Elements.{All-from_recursion, recursion_from_All, All-weaker, All-filter}
use Rattle.std.proofs.lemmas.List.Folds.{Any-from_list_any}
use Rattle.std.proofs.lemmas.Slice.Eq.{bytes_eq-Decides}
use Rattle.sigtext.specs.declared.refusal.Refusal.TheVariants as rule
use Rattle.sigtext.specs.Bytes.{same_bytes}
use Rattle.sigtext.specs.CanonicalQuery.{signed_params}
use Rattle.sigtext.specs.Request.{Request}
use Rattle.sigtext.specs.SameText.{IsOneLine, IsPlainParam, IsPlainHeader, IsPlain}
use Rattle.sigtext.specs.SignedHeaders.{Header}
use Rattle.sigtext.specs.SignedNames.{IsHeaderName}
use Rattle.sigtext.specs.SignedValues.{IsFitValue}
use Rattle.sigtext.specs.Target.{Param}
use Rattle.sigtext.proofs.Cuts.{lacks_failing}
use Rattle.sigtext.proofs.EncodedOrder.{target_bytes}
use Rattle.sigtext.proofs.Filters.{filter_within}
use Rattle.sigtext.proofs.SameTexts.{same_text}
use Rattle.sigv4.specs.Credential.{IsCredential}
use Rattle.sigv4.specs.Dates.{WritesMoment}
use Rattle.sigv4.proofs.Credentials.{credential_once}
use Rattle.sigv4.proofs.Moments.{moment_once}
use Rattle.links.specs.Admits.{signed_of}
use Rattle.links.specs.Alike.{SameText, SaysTheSame}
use Rattle.links.specs.Forms.{IsExpiry}
use Rattle.links.specs.WellFormed.{LinkValues, IsWellFormed, HasValue}
use Rattle.sigtext.specs.Readable.{methods}
use Rattle.links.proofs.OwnParams.{moved_value}
use Rattle.links.proofs.Values.{value_once, expiry_once}

-- ---- the signed parts of a well-formed request are plain

-- a text of capital letters is one line
capitals : (text : List ℕ) → IsTrue (list_all is_ascii_uppercase text) → IsOneLine text
capitals text h =
    recursion_from_All (λ b. b ≢ 10) text
    (All-weaker (λ b. eqb b 10 ≡ false) (λ b. b ≢ 10) (λ b other. eqb-false b 10 other) text (lacks_failing is_ascii_uppercase 10 text refl h))

each_capitals : All (λ (text : List ℕ). IsTrue (list_all is_ascii_uppercase text)) methods
each_capitals = All-from_recursion (λ (text : List ℕ). IsTrue (list_all is_ascii_uppercase text)) methods (refl, (refl, (refl, (refl, tt))))

method_plain : (text : List ℕ) → IsTrue (list_any (same_bytes text) methods) → IsOneLine text
method_plain text h =
    let found = Any-from_list_any (same_bytes text) methods h in
    let is = (bytes_eq-Decides text found.1).0 found.4 in
    capitals text (subst (λ (t : List ℕ). IsTrue (list_all is_ascii_uppercase t)) (found.3 ∙ sym is) (each_capitals found.0 found.1 found.2))

params_plain : (params : List Param) → AllByRecursion IsPlainParam params → AllByRecursion IsPlainParam (signed_params params)
params_plain params h =
    recursion_from_All IsPlainParam (signed_params params)
    (All-filter (λ p. not (same_bytes p.name (codes "X-Amz-Signature"))) IsPlainParam params (All-from_recursion IsPlainParam params h))

headers_plain : (hs : List Header) → AllByRecursion IsHeaderName (map (λ h. h.name) hs) → AllByRecursion (λ h. IsFitValue h.value) hs → AllByRecursion IsPlainHeader hs
headers_plain [] names values = tt
headers_plain (h ∷ hs) names values = (record { name_form = names.0; value_form = values.0 }, headers_plain hs names.1 values.1)

plain : (r : Request) (p : LinkValues) → IsWellFormed r p → IsPlain (signed_of r p)
plain r p h =
    let target = target_bytes r.target p.path p.params (h rule.Target) in
    let (text, has, names) = h rule.SignedHeaders in
    record {
      method = method_plain r.method (h rule.Method);
      path = target.0;
      params = params_plain p.params target.1;
      headers = headers_plain p.signed names.forms (h rule.SignedValues).1;
    }

-- ---- a value stays the same in a rearrangement of the signed parameters

-- a parameter whose name is not the signature's has its value among the signed parameters
signed_value : (params : List Param) (name value : List ℕ) → same_bytes name (codes "X-Amz-Signature") ≡ false → HasValue params name value → HasValue (signed_params params) name value
signed_value params name value other has =
    filter_within (λ p. not (same_bytes p.name (codes "X-Amz-Signature"))) (λ p. same_bytes p.name name) params signs ∙ has
  where
    signs : (p : Param) → same_bytes p.name name ≡ true → not (same_bytes p.name (codes "X-Amz-Signature")) ≡ true
    signs p same = ap (λ (n : List ℕ). not (same_bytes n (codes "X-Amz-Signature"))) ((bytes_eq-Decides p.name name).0 same) ∙ ap not other

one_value : (ps qs : List Param) (name value other : List ℕ) → same_bytes name (codes "X-Amz-Signature") ≡ false → IsPermutation (signed_params ps) (signed_params qs)
    → HasValue ps name value → HasValue qs name other → value ≡ other
one_value ps qs name value other apart moved has has_other =
    value_once (signed_params qs) name other value (signed_value qs name other apart has_other)
    (moved_value (signed_params ps) (signed_params qs) name value moved (signed_value ps name value apart has))

-- ---- what the values say

module _ (r s : Request) (p q : LinkValues) (moved : IsPermutation (signed_params p.params) (signed_params q.params)) (h : IsWellFormed r p) (k : IsWellFormed s q) where
  one_key : (p.key_id ≡ q.key_id) × (p.scope ≡ q.scope)
  one_key =
      let (text, date, has, has_date, is) = h rule.Credential in
      let (text', date', has', has_date', is') = k rule.Credential in
      let same = one_value p.params q.params (codes "X-Amz-Credential") text text' refl moved has has' in
      let day = one_value p.params q.params (codes "X-Amz-Date") date date' refl moved has_date has_date' in
      credential_once text' date' q.key_id p.key_id q.scope p.scope is'
      (subst (λ (t : List ℕ). IsCredential t date' p.key_id p.scope) same (subst (λ (d : List ℕ). IsCredential text d p.key_id p.scope) day is))

  one_date : p.date ≡ q.date
  one_date = one_value p.params q.params (codes "X-Amz-Date") p.date q.date refl moved (h rule.Date).0 (k rule.Date).0

  one_start : p.start ≡ q.start
  one_start = moment_once q.date q.start p.start (k rule.Date).1 (subst (λ (d : List ℕ). WritesMoment d p.start) one_date (h rule.Date).1)

  one_expiry : p.expires ≡ q.expires
  one_expiry =
      let (text, has, is) = h rule.Expiry in
      let (text', has', is') = k rule.Expiry in
      let same = one_value p.params q.params (codes "X-Amz-Expires") text text' refl moved has has' in
      expiry_once text' q.expires p.expires is' (subst (λ (t : List ℕ). IsExpiry t p.expires) same is)

-- ---- all of them

pub says_the_same : (r s : Request) (p q : LinkValues) → IsWellFormed r p → IsWellFormed s q → SameText r s p q → SaysTheSame r s p q
says_the_same r s p q h k t =
    let alike = same_text (signed_of r p) (signed_of s q) t.text (plain r p h) (plain s q k) t.one t.other in
    let key = one_key r s p q alike.params h k in
    record {
      method = alike.method;
      path = alike.path;
      params = alike.params;
      key_id = key.0;
      scope = key.1;
      date = one_date r s p q alike.params h k;
      start = one_start r s p q alike.params h k;
      expires = one_expiry r s p q alike.params h k;
      signed = alike.headers;
    }
