-- Orders of links: what a link must say, the requirements on an order, and the link that meets it. The link's texts are those
-- of the Amazon S3 API Reference, "Authenticating Requests: Using Query Parameters". The requirements on an order are the
-- office's own.
use Rattle.std.specs.Prelude.{◌≡◌, ◌≢◌, ◌↔◌, ℕ, ◌<◌, ◌≤◌, not, false, IsTrue, IsFalse, List, ◌∷◌, ◌++◌, length, map, filter, codes, IsPermutation, Option, Some, ⊤}
use Rattle.std.specs.List.{list_all, list_any, AllByRecursion}
use Rattle.sigtext.specs.Bytes.{IsWord, is_visible, same_bytes, begins_with}
use Rattle.sigtext.specs.CanonicalQuery.{IsCanonicalQuery}
use Rattle.sigtext.specs.Fields.{header_of}
use Rattle.sigtext.specs.Params.{params_named}
use Rattle.sigtext.specs.Request.{Request}
use Rattle.sigtext.specs.SignedHeaders.{Header, trimmed, named, IsSignedValue}
use Rattle.sigtext.specs.SignedNames.{IsHeaderName}
use Rattle.sigtext.specs.SignedValues.{IsFitValue, is_covered}
use Rattle.sigtext.specs.Target.{Param, BeginsWithSlash}
use Rattle.sigtext.specs.UriEncode.{uri_encoded}
use Rattle.sigtext.specs.declared.encode.Slash.TheVariants.{Kept}
use Rattle.sigv4.specs.Credential.{IsKeyId, IsRegion, IsSecret}
use Rattle.links.specs.WellFormed.{LinkValues, IsWellFormed}
use Rattle.sigtext.specs.Readable.{methods, is_signing_name}
use Rattle.links.specs.Moments.{Now, HasBegun, IsNotOver}
use Rattle.links.specs.Admits.{KnownKey, IsSignedBy, Admits}
use Rattle.links.specs.declared.orders.LinkFault.{LinkFault}
use Rattle.links.specs.declared.orders.LinkFault.TheVariants as fault
use Rattle.links.specs.declared.orders.LinkKey.{LinkKey}
use Rattle.links.specs.declared.orders.LinkOrder.{LinkOrder}
use Rattle.links.specs.declared.orders.OrderParam.{OrderParam}

-- ---- the order

-- what a link must say, and who signs it
pub record Terms : Type 0 where
  pub method : List ℕ
  pub path : List ℕ  -- decoded
  pub params : List Param  -- besides the signing parameters
  pub headers : List Header  -- signed besides `host`
  pub start : ℕ  -- in seconds since 1970
  pub expires : ℕ  -- in seconds
  pub key_id : List ℕ
  pub secret : List ℕ
  pub host : List ℕ
  pub region : List ℕ

abbrev pub param_of : OrderParam → Param
param_of p = record { name = p.name.now; value = p.value.now }

abbrev pub terms_of : LinkOrder → LinkKey → List ℕ → List ℕ → Terms
terms_of order key host region = record {
  method = order.method.now;
  path = order.path.now;
  params = map param_of order.params.now;
  headers = map header_of order.headers.now;
  start = order.start;
  expires = order.expires;
  key_id = key.id.now;
  secret = key.secret.now;
  host = host;
  region = region;
}

-- ---- the requirements on an order

-- the name has one byte or more, no other parameter has it, and it does not begin with `X-Amz-`
pub record IsOwnParam (params : List Param) (p : Param) : Type 0 where
  pub some : 0 < length p.name
  pub once : length (params_named p.name params) ≡ 1
  pub free : IsFalse (begins_with p.name (codes "X-Amz-"))

-- the name has the form of a signed header's name, no other header has it, and it is not `host`; the value may be signed, and
-- has no spaces or tabs at its ends
pub record IsOwnHeader (headers : List Header) (h : Header) : Type 0 where
  pub form : IsHeaderName h.name
  pub once : length (named h.name headers) ≡ 1
  pub other : h.name ≢ codes "host"
  pub fit : IsFitValue h.value
  pub bare : trimmed h.value ≡ h.value

-- the requirement on an order for each fault, which is reported if the requirement fails; `Memory` has no requirement
abbrev pub TermRule : LinkFault → Terms → Type 0
TermRule fault.Method t = IsTrue (list_any (same_bytes t.method) methods)
TermRule fault.Path t = BeginsWithSlash t.path
TermRule fault.Params t = AllByRecursion (IsOwnParam t.params) t.params
TermRule fault.Headers t = AllByRecursion (IsOwnHeader t.headers) t.headers
TermRule fault.Host t = IsWord is_visible 255 t.host
TermRule fault.Region t = IsRegion t.region
TermRule fault.Key t = IsKeyId t.key_id × IsSecret t.secret
TermRule fault.Expires t = (1 ≤ t.expires) × (t.expires ≤ 604800)
TermRule fault.Memory t = ⊤

-- no requirement fails
abbrev pub AreSound : Terms → Type 0
AreSound t = (f : LinkFault) → TermRule f t

-- the sequence in which faults are reported
abbrev pub fault_place : LinkFault → ℕ
fault_place fault.Method = 1
fault_place fault.Path = 2
fault_place fault.Params = 3
fault_place fault.Headers = 4
fault_place fault.Host = 5
fault_place fault.Region = 6
fault_place fault.Key = 7
fault_place fault.Expires = 8
fault_place fault.Memory = 9

-- the requirement for this fault is the first that fails
pub record IsFirstFault (t : Terms) (f : LinkFault) : Type 0 where
  pub before : (g : LinkFault) → fault_place g < fault_place f → TermRule g t
  pub fails : TermRule f t → ⊥

-- ---- the link

-- the headers that are signed: `host`, and those of the order
abbrev pub wanted : Terms → List Header
wanted t = record { name = codes "host"; value = t.host } ∷ t.headers

-- a request with the order's method and this target. It has one field each for `host` and the order's headers, with the names
-- in any case and perhaps blanks at the ends of the values. It has no other field whose name begins with `x-amz-` in any case.
-- Everything else is free.
pub record IsRequestFor (t : Terms) (target : List ℕ) (r : Request) : Type 0 where
  pub method_is : r.method ≡ t.method
  pub target_is : r.target ≡ target
  pub given : AllByRecursion (λ h. IsSignedValue r.headers h.name h.value) (wanted t)
  pub covered : IsTrue (list_all (is_covered (wanted t)) r.headers)

-- the parts say exactly what was ordered
pub record Says (t : Terms) (p : LinkValues) : Type 0 where
  pub path : p.path ≡ t.path
  pub params : IsPermutation t.params (filter (λ q. not (is_signing_name q.name)) p.params)
  pub start : p.start ≡ t.start
  pub expires : p.expires ≡ t.expires
  pub key_id : p.key_id ≡ t.key_id
  pub region : p.scope.region ≡ t.region
  pub signed : IsPermutation (wanted t) p.signed

-- the encoded path, `?`, the canonical query, and the signature as its last parameter
pub record IsCanonicalTarget (p : LinkValues) (target : List ℕ) : Type 0 where
  pub query : List ℕ
  pub is_query : IsCanonicalQuery p.params query
  pub is : target ≡ uri_encoded Kept p.path ++ 63 ∷ query ++ codes "&X-Amz-Signature=" ++ p.signature

-- the key exists with the secret that signed, and is not revoked. look_up: what the state says about a key id
abbrev pub Knows : (List ℕ → Option KnownKey) → Terms → Type 0
Knows look_up t = look_up t.key_id ≡ Some (record { secret = t.secret; revoked = false })

-- the target is a link that meets the order: requests for it exist; each of them is well formed with the ordered parts, and
-- signed under the secret; and each state where the key has this secret and is not revoked admits it from the start, or earlier
-- by the allowance, until the expiry is over, and at no other moment
pub record IsLinkFor (t : Terms) (target : List ℕ) : Type 0 where
  pub sound : AreSound t
  pub sent : (r : Request) × IsRequestFor t target r
  pub parts : LinkValues
  pub says : Says t parts
  pub canonical : IsCanonicalTarget parts target
  pub formed : (r : Request) → IsRequestFor t target r → IsWellFormed r parts
  pub signed : (r : Request) → IsRequestFor t target r → IsSignedBy t.secret r parts
  pub admitted : (look_up : List ℕ → Option KnownKey) (r : Request) (n : Now) → Knows look_up t → IsRequestFor t target r
      → Admits look_up r n ↔ (HasBegun n t.start × IsNotOver n t.start t.expires)
