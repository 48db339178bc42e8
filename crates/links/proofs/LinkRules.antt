-- The lowest of the rules 7 to 18 that fails, given what was read from a request.
use Rattle.std.proofs.Common.{◌≡◌, ℕ, ◌<◌, ◌≤◌, List, [], ◌∷◌, map, codes, refl, sym, ap, subst, ⊎_elim, arith}
use Rattle.std.specs.Prelude.{IsTrue}
use Rattle.std.specs.List.{list_any}
use Rattle.sigtext.specs.declared.refusal.Refusal.{Refusal}
use Rattle.sigtext.specs.declared.refusal.Refusal.TheVariants as rule
use Rattle.sigtext.specs.declared.params.Params.{Params}
use Rattle.sigtext.specs.Bytes.{same_bytes}
use Rattle.sigtext.specs.Refusals.{number_of}
use Rattle.sigtext.specs.Rules.{IsFirstToFail, AllHold}
use Rattle.sigtext.specs.Request.{Request}
use Rattle.sigtext.specs.Target.{Param, IsTargetOf}
use Rattle.sigtext.specs.SignedHeaders.{Header, AreSignedValues}
use Rattle.sigtext.specs.SignedNames.{AreSignedNames}
use Rattle.sigtext.specs.SignedValues.{ValueRule}
use Rattle.sigtext.proofs.NamesOnce.{names_once}
use Rattle.sigv4.specs.Credential.{IsCredential}
use Rattle.sigv4.specs.Dates.{WritesMoment}
use Rattle.links.specs.Forms.{IsExpiry, IsHexDigest}
use Rattle.links.specs.WellFormed.{LinkValues, HasValue, AreTheSix, HeadRule, IsWellFormed}
use Rattle.sigtext.specs.Readable.{methods, is_signing_name}
use Rattle.links.proofs.Values.{value_same}
use Rattle.links.specs.SixValues.{SixTexts, SixParts, SixRule, AreSixOf, AreRightParams, AreWrongParams}

-- the rules 7 to 18 of a request
abbrev pub Heads : Request → Refusal → LinkValues → Type 0
Heads r x p = HeadRule x r p

-- ---- the parts so far

abbrev pub parts_of : List ℕ → List Param → SixTexts → SixParts → List Header → LinkValues
parts_of path params six sp signed = record {
  path = path;
  params = params;
  key_id = sp.key_id;
  scope = sp.scope;
  date = six.date;
  start = sp.start;
  expires = sp.expires;
  signed = signed;
  signature = six.signature;
}

abbrev early : List ℕ → List Param → LinkValues
early path params = record {
  path = path;
  params = params;
  key_id = [];
  scope = record { date = []; region = [] };
  date = [];
  start = 0;
  expires = 0;
  signed = [];
  signature = [];
}

-- the names as headers with empty values
abbrev blank : List (List ℕ) → List Header
blank names = map (λ name. record { name = name; value = [] }) names

blank_names : (names : List (List ℕ)) → map (λ s. s.name) (blank names) ≡ names
blank_names [] = refl
blank_names (name ∷ names) = ap (λ (ns : List (List ℕ)). name ∷ ns) (blank_names names)

-- what the six values say, taken from a request's parts
abbrev six_of : LinkValues → SixParts
six_of p = record { key_id = p.key_id; scope = p.scope; start = p.start; expires = p.expires; names = map (λ s. s.name) p.signed }

-- ---- the method, the target and the six names

pub method_first : (r : Request) → (IsTrue (list_any (same_bytes r.method) methods) → ⊥) → IsFirstToFail (Heads r) rule.Method
method_first r other = record { parts = early [] []; before = λ x lt. nothing r x lt; fails = λ p hold bad. other bad }
  where
    nothing : (r : Request) (x : Refusal) → number_of x < 7 → HeadRule x r (early [] [])
    nothing r rule.Method lt = absurd (omega arith)
    nothing r rule.Target lt = absurd (omega arith)
    nothing r rule.NotSigned lt = absurd (omega arith)
    nothing r rule.Parameters lt = absurd (omega arith)
    nothing r rule.Algorithm lt = absurd (omega arith)
    nothing r rule.Credential lt = absurd (omega arith)
    nothing r rule.Date lt = absurd (omega arith)
    nothing r rule.Expiry lt = absurd (omega arith)
    nothing r rule.SignedHeaders lt = absurd (omega arith)
    nothing r rule.SignatureText lt = absurd (omega arith)
    nothing r rule.SignedValues lt = absurd (omega arith)
    nothing r rule.HeaderNotSigned lt = absurd (omega arith)
    nothing r _ lt = tt

-- the rules 7 to 10 below a number hold
early_before : (r : Request) (p : LinkValues) (n : ℕ) → n ≤ 10 → (7 < n → HeadRule rule.Method r p) → (8 < n → HeadRule rule.Target r p) → (9 < n → HeadRule rule.NotSigned r p)
    → (x : Refusal) → number_of x < n → HeadRule x r p
early_before r p n most method target signed rule.Method lt = method lt
early_before r p n most method target signed rule.Target lt = target lt
early_before r p n most method target signed rule.NotSigned lt = signed lt
early_before r p n most method target signed rule.Parameters lt = absurd (omega (arith, most, lt))
early_before r p n most method target signed rule.Algorithm lt = absurd (omega (arith, most, lt))
early_before r p n most method target signed rule.Credential lt = absurd (omega (arith, most, lt))
early_before r p n most method target signed rule.Date lt = absurd (omega (arith, most, lt))
early_before r p n most method target signed rule.Expiry lt = absurd (omega (arith, most, lt))
early_before r p n most method target signed rule.SignedHeaders lt = absurd (omega (arith, most, lt))
early_before r p n most method target signed rule.SignatureText lt = absurd (omega (arith, most, lt))
early_before r p n most method target signed rule.SignedValues lt = absurd (omega (arith, most, lt))
early_before r p n most method target signed rule.HeaderNotSigned lt = absurd (omega (arith, most, lt))
early_before r p n most method target signed _ lt = tt

pub target_first : (r : Request) → IsTrue (list_any (same_bytes r.method) methods) → ((path : List ℕ) (params : List Param) → IsTargetOf r.target path params → ⊥)
    → IsFirstToFail (Heads r) rule.Target
target_first r served none = record {
  parts = early [] [];
  before = early_before r (early [] []) 8 (omega arith) (λ lt. served) (λ lt. absurd (omega arith)) (λ lt. absurd (omega arith));
  fails = λ p hold bad. none p.path p.params bad;
}

-- a request with a served method, whose target has this reading only
pub record HasTarget (r : Request) (path : List ℕ) (params : List Param) : Type 0 where
  pub served : IsTrue (list_any (same_bytes r.method) methods)
  pub target : IsTargetOf r.target path params
  pub only : (other : List ℕ) (others : List Param) → IsTargetOf r.target other others → (other ≡ path) × (others ≡ params)

pub names_first : (r : Request) (path : List ℕ) (params : List Param) (q : Refusal) → HasTarget r path params → AreWrongParams q params → IsFirstToFail (Heads r) q
names_first r path params q has wrong =
    ⊎_elim
    (λ w. subst (IsFirstToFail (Heads r)) (sym w.0) (record {
      parts = early path params;
      before = early_before r (early path params) 9 (omega arith) (λ lt. has.served) (λ lt. has.target) (λ lt. absurd (omega arith));
      fails = λ p hold bad. w.1 (subst (λ (ps : List Param). IsTrue (list_any (λ x. is_signing_name x.name) ps)) (has.only p.path p.params (hold rule.Target (omega arith))).1 bad);
    }))
    (λ w. subst (IsFirstToFail (Heads r)) (sym w.0) (record {
      parts = early path params;
      before = early_before r (early path params) 10 (omega arith) (λ lt. has.served) (λ lt. has.target) (λ lt. w.1);
      fails = λ p hold bad. w.2 (subst AreTheSix (has.only p.path p.params (hold rule.Target (omega arith))).1 bad);
    }))
    wrong

-- ---- the six values

-- such a request whose parameters are right, with these six values
pub record HasSix (r : Request) (path : List ℕ) (params : List Param) (sorted : Params) (six : SixTexts) : Type 0 where
  pub has : HasTarget r path params
  pub right : AreRightParams sorted six params

head_with : (r : Request) (path : List ℕ) (params : List Param) (sorted : Params) (six : SixTexts) (sp : SixParts) (signed : List Header) → HasSix r path params sorted six
    → map (λ s. s.name) signed ≡ sp.names → (x : Refusal) → number_of x ≤ 16 → SixRule six x sp → HeadRule x r (parts_of path params six sp signed)
head_with r path params sorted six sp signed k same rule.Method le h = k.has.served
head_with r path params sorted six sp signed k same rule.Target le h = k.has.target
head_with r path params sorted six sp signed k same rule.NotSigned le h = k.right.signed
head_with r path params sorted six sp signed k same rule.Parameters le h = k.right.are_six
head_with r path params sorted six sp signed k same rule.Algorithm le h = subst (HasValue params (codes "X-Amz-Algorithm")) h k.right.values.algorithm
head_with r path params sorted six sp signed k same rule.Credential le h = (six.credential, six.date, k.right.values.credential, k.right.values.date, h)
head_with r path params sorted six sp signed k same rule.Date le h = (k.right.values.date, h)
head_with r path params sorted six sp signed k same rule.Expiry le h = (six.expires, k.right.values.expires, h)
head_with r path params sorted six sp signed k same rule.SignedHeaders le h = (six.names, k.right.values.names, subst (AreSignedNames six.names) (sym same) h)
head_with r path params sorted six sp signed k same rule.SignatureText le h = (k.right.values.signature, h)
head_with r path params sorted six sp signed k same rule.SignedValues le h = absurd (omega arith)
head_with r path params sorted six sp signed k same rule.HeaderNotSigned le h = absurd (omega arith)
head_with r path params sorted six sp signed k same _ le h = tt

six_from : (r : Request) (params : List Param) (six : SixTexts) (p : LinkValues) → p.params ≡ params → AreSixOf six params → (x : Refusal) → HeadRule x r p → SixRule six x (six_of p)
six_from r params six p same v rule.Algorithm h = sym (value_same params p.params (codes "X-Amz-Algorithm") six.algorithm _ same v.algorithm h)
six_from r params six p same v rule.Credential (text, date, has, has_date, is) =
    let one = value_same params p.params (codes "X-Amz-Credential") six.credential text same v.credential has in
    let day = value_same params p.params (codes "X-Amz-Date") six.date date same v.date has_date in
    subst (λ (d : List ℕ). IsCredential six.credential d p.key_id p.scope) day (subst (λ (t : List ℕ). IsCredential t date p.key_id p.scope) one is)
six_from r params six p same v rule.Date (has, is) = subst (λ (d : List ℕ). WritesMoment d p.start) (value_same params p.params (codes "X-Amz-Date") six.date p.date same v.date has) is
six_from r params six p same v rule.Expiry (text, has, is) = subst (λ (t : List ℕ). IsExpiry t p.expires) (value_same params p.params (codes "X-Amz-Expires") six.expires text same v.expires has) is
six_from r params six p same v rule.SignedHeaders (text, has, are) =
    subst (λ (t : List ℕ). AreSignedNames t (map (λ s. s.name) p.signed)) (value_same params p.params (codes "X-Amz-SignedHeaders") six.names text same v.names has) are
six_from r params six p same v rule.SignatureText (has, is) = subst IsHexDigest (value_same params p.params (codes "X-Amz-Signature") six.signature p.signature same v.signature has) is
six_from r params six p same v _ h = tt

-- the first rule on the values' forms to fail has a number from 11 to 16
six_number : (six : SixTexts) (q : Refusal) → IsFirstToFail (SixRule six) q → (11 ≤ number_of q) × (number_of q ≤ 16)
six_number six rule.Algorithm f = (omega arith, omega arith)
six_number six rule.Credential f = (omega arith, omega arith)
six_number six rule.Date f = (omega arith, omega arith)
six_number six rule.Expiry f = (omega arith, omega arith)
six_number six rule.SignedHeaders f = (omega arith, omega arith)
six_number six rule.SignatureText f = (omega arith, omega arith)
six_number six _ f = absurd (f.fails f.parts f.before tt)

pub six_first : (r : Request) (path : List ℕ) (params : List Param) (sorted : Params) (six : SixTexts) (q : Refusal) → HasSix r path params sorted six
    → IsFirstToFail (SixRule six) q → IsFirstToFail (Heads r) q
six_first r path params sorted six q k f =
    let number = six_number six q f in
    record {
      parts = parts_of path params six f.parts (blank f.parts.names);
      before = λ x lt. head_with r path params sorted six f.parts (blank f.parts.names) k (blank_names f.parts.names) x (omega (arith, lt, number.1)) (f.before x lt);
      fails = λ p hold bad.
          let same = (k.has.only p.path p.params (hold rule.Target (omega (arith, number.0)))).1 in
          f.fails (six_of p) (λ x lt. six_from r params six p same k.right.values x (hold x lt)) (six_from r params six p same k.right.values q bad);
    }

-- ---- the signed values

value_names : (headers : List Header) (names : List (List ℕ)) (signed : List Header) → AreSignedValues headers names signed → map (λ s. s.name) signed ≡ names
value_names headers [] [] h = refl
value_names headers [] (s ∷ signed) h = absurd h
value_names headers (name ∷ names) [] h = absurd h
value_names headers (name ∷ names) (s ∷ signed) h = let first = h.0 in let rest = value_names headers names signed h.2 in cc (first, rest)

no_values : (headers : List Header) (names : List (List ℕ)) (signed : List Header) (x : Refusal) → number_of x < 17 → ValueRule headers names x signed
no_values headers names signed rule.SignedValues lt = absurd (omega arith)
no_values headers names signed rule.HeaderNotSigned lt = absurd (omega arith)
no_values headers names signed _ lt = tt

-- the rules below 18 hold if the signed values are present
before_cover : (r : Request) (path : List ℕ) (params : List Param) (sorted : Params) (six : SixTexts) (sp : SixParts) (signed : List Header) → HasSix r path params sorted six → AllHold (SixRule six) sp
    → ValueRule r.headers sp.names rule.SignedValues signed → (x : Refusal) → number_of x < 18 → HeadRule x r (parts_of path params six sp signed)
before_cover r path params sorted six sp signed k all v rule.SignedValues lt =
    (subst (λ (ns : List (List ℕ)). AreSignedValues r.headers ns signed) (sym (value_names r.headers sp.names signed v.0)) v.0, v.1)
before_cover r path params sorted six sp signed k all v rule.HeaderNotSigned lt = absurd (omega arith)
before_cover r path params sorted six sp signed k all v x lt = head_with r path params sorted six sp signed k (value_names r.headers sp.names signed v.0) x (omega arith) (all x)

-- other parts give the same names
same_names : (r : Request) (params : List Param) (six : SixTexts) (sp : SixParts) (p : LinkValues) → p.params ≡ params → AreSixOf six params → AreSignedNames six.names sp.names
    → HeadRule rule.SignedHeaders r p → map (λ s. s.name) p.signed ≡ sp.names
same_names r params six sp p same v are h = names_once six.names sp.names (map (λ s. s.name) p.signed) are (six_from r params six p same v rule.SignedHeaders h)

pub values_first : (r : Request) (path : List ℕ) (params : List Param) (sorted : Params) (six : SixTexts) (sp : SixParts) (q : Refusal) → HasSix r path params sorted six → AllHold (SixRule six) sp
    → IsFirstToFail (ValueRule r.headers sp.names) q → IsFirstToFail (Heads r) q
values_first r path params sorted six sp rule.SignedValues k all f = record {
  parts = parts_of path params six sp (blank sp.names);
  before = λ x lt. head_with r path params sorted six sp (blank sp.names) k (blank_names sp.names) x (omega (arith, lt)) (all x);
  fails = λ p hold bad.
      let same = (k.has.only p.path p.params (hold rule.Target (omega arith))).1 in
      let names = same_names r params six sp p same k.right.values (all rule.SignedHeaders) (hold rule.SignedHeaders (omega arith)) in
      f.fails p.signed (λ x lt. no_values r.headers sp.names p.signed x lt) (subst (λ (ns : List (List ℕ)). AreSignedValues r.headers ns p.signed) names bad.0, bad.1);
}
values_first r path params sorted six sp rule.HeaderNotSigned k all f = record {
  parts = parts_of path params six sp f.parts;
  before = before_cover r path params sorted six sp f.parts k all (f.before rule.SignedValues (omega arith));
  fails = λ p hold bad.
      let same = (k.has.only p.path p.params (hold rule.Target (omega arith))).1 in
      let names = same_names r params six sp p same k.right.values (all rule.SignedHeaders) (hold rule.SignedHeaders (omega arith)) in
      let v = hold rule.SignedValues (omega arith) in
      f.fails p.signed (λ x lt. up_to r sp p names v x lt) bad;
}
  where
    up_to : (r : Request) (sp : SixParts) (p : LinkValues) → map (λ s. s.name) p.signed ≡ sp.names → HeadRule rule.SignedValues r p → (x : Refusal) → number_of x < 18 → ValueRule r.headers sp.names x p.signed
    up_to r sp p names v rule.SignedValues lt = (subst (λ (ns : List (List ℕ)). AreSignedValues r.headers ns p.signed) names v.0, v.1)
    up_to r sp p names v rule.HeaderNotSigned lt = absurd (omega arith)
    up_to r sp p names v _ lt = tt
values_first r path params sorted six sp _ k all f = absurd (f.fails f.parts f.before tt)

-- ---- all of them

pub well_formed : (r : Request) (path : List ℕ) (params : List Param) (sorted : Params) (six : SixTexts) (sp : SixParts) (signed : List Header) → HasSix r path params sorted six → AllHold (SixRule six) sp
    → AllHold (ValueRule r.headers sp.names) signed → IsWellFormed r (parts_of path params six sp signed)
well_formed r path params sorted six sp signed k all v rule.SignedValues = before_cover r path params sorted six sp signed k all (v rule.SignedValues) rule.SignedValues (omega arith)
well_formed r path params sorted six sp signed k all v rule.HeaderNotSigned = v rule.HeaderNotSigned
well_formed r path params sorted six sp signed k all v rule.Method = before_cover r path params sorted six sp signed k all (v rule.SignedValues) rule.Method (omega arith)
well_formed r path params sorted six sp signed k all v rule.Target = before_cover r path params sorted six sp signed k all (v rule.SignedValues) rule.Target (omega arith)
well_formed r path params sorted six sp signed k all v rule.NotSigned = before_cover r path params sorted six sp signed k all (v rule.SignedValues) rule.NotSigned (omega arith)
well_formed r path params sorted six sp signed k all v rule.Parameters = before_cover r path params sorted six sp signed k all (v rule.SignedValues) rule.Parameters (omega arith)
well_formed r path params sorted six sp signed k all v rule.Algorithm = before_cover r path params sorted six sp signed k all (v rule.SignedValues) rule.Algorithm (omega arith)
well_formed r path params sorted six sp signed k all v rule.Credential = before_cover r path params sorted six sp signed k all (v rule.SignedValues) rule.Credential (omega arith)
well_formed r path params sorted six sp signed k all v rule.Date = before_cover r path params sorted six sp signed k all (v rule.SignedValues) rule.Date (omega arith)
well_formed r path params sorted six sp signed k all v rule.Expiry = before_cover r path params sorted six sp signed k all (v rule.SignedValues) rule.Expiry (omega arith)
well_formed r path params sorted six sp signed k all v rule.SignedHeaders = before_cover r path params sorted six sp signed k all (v rule.SignedValues) rule.SignedHeaders (omega arith)
well_formed r path params sorted six sp signed k all v rule.SignatureText = before_cover r path params sorted six sp signed k all (v rule.SignedValues) rule.SignatureText (omega arith)
well_formed r path params sorted six sp signed k all v _ = tt
