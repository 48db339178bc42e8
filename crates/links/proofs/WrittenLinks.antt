-- The text of a link is a link for its terms.
use Rattle.std.proofs.Common.{◌≡◌, ℕ, ◌<◌, false, List, [], ◌∷◌, ◌++◌, length, map, codes, refl, sym, ap, subst, ◌∙◌, append_assoc, arith, length-append, Option}
use Rattle.std.specs.Prelude.{IsPermutation, IsTrue, ◌↔◌, decimal, take, nat_lt}
use Rattle.std.specs.Char.{is_ascii_digit}
use Rattle.std.specs.List.{list_all, list_any, AllByRecursion, join_with_byte}
use Rattle.std.proofs.lemmas.Bool.{and_parts}
use Rattle.std.proofs.lemmas.Bool.Decides.{nat_tests}
use Rattle.std.proofs.lemmas.List.{map-append, length-map}
use Rattle.std.proofs.lemmas.List.Sorted.{length_permutation}
use Rattle.sigtext.specs.declared.encode.Slash.TheVariants.{Kept, Encoded}
use Rattle.sigtext.specs.declared.refusal.Refusal.TheVariants as rule
use Rattle.sigtext.specs.Bytes.{AreBytes, same_bytes, begins_with}
use Rattle.sigtext.specs.CanonicalQuery.{param_text, signed_params, IsCanonicalQuery}
use Rattle.sigtext.specs.CanonicalRequest.{Signed, canonical_text, IsCanonicalRequest, IsTheOnly}
use Rattle.sigtext.specs.Request.{Request}
use Rattle.sigtext.specs.SignedHeaders.{Header, IsSignedValue}
use Rattle.sigtext.specs.SignedNames.{AreSignedNames}
use Rattle.sigtext.specs.SignedValues.{IsFitValue}
use Rattle.sigtext.specs.Target.{Param, IsTargetOf}
use Rattle.sigtext.specs.UriEncode.{uri_encoded, stays}
use Rattle.sigtext.proofs.EncodedSpells.{IsWritable, target_spelled}
use Rattle.sigtext.proofs.JoinedTexts.{joined_more}
use Rattle.sigtext.proofs.PlainTexts.{encoded_plain}
use Rattle.sigv4.specs.Credential.{IsCredential, IsRegion}
use Rattle.sigv4.specs.Dates.{WritesMoment}
use Rattle.sigv4.specs.Signature.{CredentialScope, scope_text, signature_of}
use Rattle.sigv4.proofs.Days.{day_of}
use Rattle.links.specs.declared.orders.LinkFault.TheVariants as fault
use Rattle.links.specs.Moments.{Now, HasBegun, IsNotOver}
use Rattle.links.specs.Admits.{KnownKey, IsSignedBy, Admits}
use Rattle.links.specs.Drafts.{DraftValues, draft_params, HasBytes, target_text}
use Rattle.links.specs.Forms.{IsExpiry, IsHexDigest}
use Rattle.links.specs.Orders.{Terms, AreSound, IsOwnParam, wanted, IsRequestFor, Knows, IsLinkFor}
use Rattle.links.specs.WellFormed.{LinkValues, IsWellFormed}
use Rattle.sigtext.specs.Readable.{methods}
use Rattle.links.proofs.Admitted.{admitted}
use Rattle.links.proofs.Expiries.{written_expiry}
use Rattle.links.proofs.OwnHeaders.{own_given, own_covered, wanted_fit, values_given, cover_moved}
use Rattle.links.proofs.SignatureTexts.{written_signature, signature_stays, signature_bytes}
use Rattle.links.proofs.SixWritten.{sixth, AreWritten, written, final_moved, final_query}
use Rattle.links.proofs.OrderedHeaders.{each_moved}

-- the values of the signing parameters are the texts of what they say
pub record AreTexts (t : Terms) (five : DraftValues) (scope : CredentialScope) (hs : List Header) : Type 0 where
  pub credential : five.credential ≡ t.key_id ++ 47 ∷ scope_text scope
  pub day : scope.date ≡ take 8 five.date
  pub region : scope.region ≡ t.region
  pub date : WritesMoment five.date t.start
  pub expires : five.expires ≡ decimal t.expires
  pub names : AreSignedNames five.names (map (λ h. h.name) hs)
  pub headers : IsPermutation (wanted t) hs

-- what is signed is the draft
abbrev pub drafted : Terms → DraftValues → List Header → Signed
drafted t five hs = record { method = t.method; path = t.path; params = draft_params five t.params; headers = hs }

pub record IsDraftSigned (t : Terms) (five : DraftValues) (scope : CredentialScope) (hs : List Header) (sig : List ℕ) : Type 0 where
  pub text : List ℕ
  pub is : IsCanonicalRequest (drafted t five hs) text
  pub same : sig ≡ signature_of t.secret five.date scope text

-- what was written, piece by piece
pub record AreTold (t : Terms) (five : DraftValues) (scope : CredentialScope) (hs : List Header) (sig query target : List ℕ) : Type 0 where
  pub sound : AreSound t
  pub texts : AreTexts t five scope hs
  pub path_bytes : AreBytes t.path
  pub param_bytes : AllByRecursion HasBytes (draft_params five t.params)
  pub query_is : IsTheOnly (IsCanonicalQuery (draft_params five t.params)) query
  pub signed : IsDraftSigned t five scope hs sig
  pub target_is : target ≡ uri_encoded Kept t.path ++ 63 ∷ query ++ codes "&X-Amz-Signature=" ++ sig

-- ---- the target

-- the signature's parameter, as it is written
sixth_text : (sig : List ℕ) → IsTrue (list_all (stays Encoded) sig) → param_text (sixth sig) ≡ codes "X-Amz-Signature=" ++ sig
sixth_text sig stay =
    ap (λ (t : List ℕ). t ++ 61 ∷ uri_encoded Encoded sig) (encoded_plain Encoded (codes "X-Amz-Signature") refl)
    ∙ ap (λ (t : List ℕ). codes "X-Amz-Signature=" ++ t) (encoded_plain Encoded sig stay)

regrouped : (path query name sig : List ℕ) → path ++ 63 ∷ query ++ (38 ∷ name) ++ sig ≡ path ++ 63 ∷ (query ++ 38 ∷ (name ++ sig))
regrouped path query name sig = simp append_assoc

-- the whole target is the text of all parameters, with the signature as the last one
target_all : (path query sig target : List ℕ) (ps : List Param) → 0 < length ps → IsTrue (list_all (stays Encoded) sig) → query ≡ join_with_byte 38 (map param_text ps)
    → target ≡ path ++ 63 ∷ query ++ codes "&X-Amz-Signature=" ++ sig → target ≡ path ++ 63 ∷ join_with_byte 38 (map param_text (ps ++ sixth sig ∷ []))
target_all path query sig target ps some stay joined is =
    let texts : 0 < length (map param_text ps) = omega (arith, some, length-map ps param_text) in
    let more = ap (join_with_byte 38) (map-append param_text ps (sixth sig ∷ [])) ∙ joined_more 38 (map param_text ps) (param_text (sixth sig)) texts in
    let whole = more ∙ ap (λ (t : List ℕ). join_with_byte 38 (map param_text ps) ++ 38 ∷ t) (sixth_text sig stay) ∙ ap (λ (q : List ℕ). q ++ 38 ∷ (codes "X-Amz-Signature=" ++ sig)) (sym joined) in
    is ∙ regrouped path query (codes "X-Amz-Signature=") sig ∙ ap (λ (t : List ℕ). path ++ 63 ∷ t) (sym whole)

-- the canonical text around the query does not depend on the parameters
same_canonical : (method path : List ℕ) (ps qs : List Param) (hs : List Header) (query : List ℕ)
    → canonical_text (record { method = method; path = path; params = ps; headers = hs }) query ≡ canonical_text (record { method = method; path = path; params = qs; headers = hs }) query
unfolding canonical_text
same_canonical method path ps qs hs query = refl

small_bytes : (text : List ℕ) → IsTrue (list_all (λ b. nat_lt b 256) text) → AreBytes text
small_bytes [] h = tt
small_bytes (b ∷ text) h =
    let parts = and_parts (nat_lt b 256) (list_all (λ x. nat_lt x 256) text) h in
    (below b parts.0, small_bytes text parts.1)
  where
    below : (b : ℕ) → IsTrue (nat_lt b 256) → b < 256
    below b e = grind (arith, nat_tests)

-- the others can be written, since their names are not empty
others_writable : (all others : List Param) → AllByRecursion (IsOwnParam all) others → AllByRecursion HasBytes others → AllByRecursion IsWritable others
others_writable all [] own bytes = tt
others_writable all (p ∷ others) own bytes = ((own.0.some, bytes.0.0, bytes.0.1), others_writable all others own.1 bytes.1)

abbrev Named : List ℕ → Type 0
Named name = 0 < length name

draft_writable : (five : DraftValues) (others : List Param) → AllByRecursion (IsOwnParam others) others → AllByRecursion HasBytes (draft_params five others) → AllByRecursion IsWritable (draft_params five others)
draft_writable five others own bytes =
    let algorithm : Named (codes "X-Amz-Algorithm") = omega arith in
    let credential : Named (codes "X-Amz-Credential") = omega arith in
    let date : Named (codes "X-Amz-Date") = omega arith in
    let expires : Named (codes "X-Amz-Expires") = omega arith in
    let names : Named (codes "X-Amz-SignedHeaders") = omega arith in
    ((algorithm, bytes.0.0, bytes.0.1), ((credential, bytes.1.0.0, bytes.1.0.1), ((date, bytes.1.1.0.0, bytes.1.1.0.1), ((expires, bytes.1.1.1.0.0, bytes.1.1.1.0.1), ((names, bytes.1.1.1.1.0.0, bytes.1.1.1.1.0.1), others_writable others others own bytes.1.1.1.1.1)))))

-- the draft is a target with these parameters
pub draft_is : (t : Terms) (five : DraftValues) → AreSound t → AreBytes t.path → AllByRecursion HasBytes (draft_params five t.params)
    → (text : List ℕ) → text ≡ target_text t.path (draft_params five t.params) → IsTargetOf text t.path (draft_params five t.params)
draft_is t five sound path_bytes param_bytes text is =
    let ps = draft_params five t.params in
    subst (λ (x : List ℕ). IsTargetOf x t.path ps) (sym is) (target_spelled t.path ps (sound fault.Path) path_bytes (omega arith) (draft_writable five t.params (sound fault.Params) param_bytes))

module _ {t : Terms} {five : DraftValues} {scope : CredentialScope} {hs : List Header} {sig query target : List ℕ} (told : AreTold t five scope hs sig query target) where
  own : AllByRecursion (IsOwnParam t.params) t.params
  own = told.sound fault.Params

  form : IsHexDigest sig
  form = subst IsHexDigest (sym told.signed.same) (written_signature t.secret five.date scope told.signed.text)

  -- the parameters as they are written
  abbrev all : List Param
  all = told.query_is.holds.ordered ++ sixth sig ∷ []

  moved : IsPermutation (sixth sig ∷ draft_params five t.params) all
  moved = final_moved five sig t.params told.query_is.holds.ordered own told.query_is.holds.rearranged

  six : AreWritten five sig t.params all
  six = written five sig t.params all own moved

  writable : AllByRecursion IsWritable all
  writable =
      each_moved IsWritable (sixth sig ∷ draft_params five t.params) all moved
      ((omega arith, small_bytes (codes "X-Amz-Signature") refl, signature_bytes sig form), draft_writable five t.params own told.param_bytes)

  stay : IsTrue (list_all (stays Encoded) sig)
  stay = signature_stays sig form

  some : 0 < length told.query_is.holds.ordered
  some =
      let same = length_permutation (signed_params (draft_params five t.params)) told.query_is.holds.ordered told.query_is.holds.rearranged in
      omega (arith, same)

  is_target : IsTargetOf target t.path all
  is_target =
      let is = target_all (uri_encoded Kept t.path) query sig target told.query_is.holds.ordered some stay told.query_is.holds.joined told.target_is in
      let long : 0 < length all = omega (arith, length-append told.query_is.holds.ordered (sixth sig ∷ [])) in
      subst (λ (text : List ℕ). IsTargetOf text t.path all) (sym is) (target_spelled t.path all (told.sound fault.Path) told.path_bytes long writable)

  -- ---- the parts

  abbrev found : LinkValues
  found = record {
    path = t.path;
    params = told.query_is.holds.ordered ++ sixth sig ∷ [];
    key_id = t.key_id;
    scope = scope;
    date = five.date;
    start = t.start;
    expires = t.expires;
    signed = hs;
    signature = sig;
  }

  is_credential : IsCredential five.credential five.date t.key_id scope
  is_credential =
      let day = day_of five.date t.start told.texts.date in
      let same = sym told.texts.day in
      record {
        joined = told.texts.credential;
        key_form = (told.sound fault.Key).0;
        day_length = subst (λ (d : List ℕ). length d ≡ 8) same day.0;
        day_digits = subst (λ (d : List ℕ). IsTrue (list_all is_ascii_digit d)) same day.1;
        same_day = subst (λ (d : List ℕ). IsTrue (begins_with five.date d)) same day.2;
        region_form = subst IsRegion (sym told.texts.region) (told.sound fault.Region);
      }

  is_expiry : IsExpiry five.expires t.expires
  is_expiry =
      let bounds = told.sound fault.Expires in
      subst (λ (text : List ℕ). IsExpiry text t.expires) (sym told.texts.expires) (written_expiry t.expires bounds.0 bounds.1)

  formed : (r : Request) → IsRequestFor t target r → IsWellFormed r found
  formed r is rule.Method = subst (λ (m : List ℕ). IsTrue (list_any (same_bytes m) methods)) (sym is.method_is) (told.sound fault.Method)
  formed r is rule.Target = subst (λ (text : List ℕ). IsTargetOf text t.path all) (sym is.target_is) is_target
  formed r is rule.NotSigned = six.signing
  formed r is rule.Parameters = six.six
  formed r is rule.Algorithm = six.algorithm
  formed r is rule.Credential = (five.credential, five.date, six.credential, six.date, is_credential)
  formed r is rule.Date = (six.date, told.texts.date)
  formed r is rule.Expiry = (five.expires, six.expires, is_expiry)
  formed r is rule.SignedHeaders = (five.names, six.names, told.texts.names)
  formed r is rule.SignatureText = (six.signature, form)
  formed r is rule.SignedValues = (
    values_given r.headers hs (each_moved (λ h. IsSignedValue r.headers h.name h.value) (wanted t) hs told.texts.headers is.given),
    each_moved (λ h. IsFitValue h.value) (wanted t) hs told.texts.headers (wanted_fit t told.sound),
  )
  formed r is rule.HeaderNotSigned = cover_moved (wanted t) hs r.headers told.texts.headers is.covered
  formed r is _ = tt

  -- ---- the signature

  final_is : IsCanonicalQuery all query
  final_is = final_query five sig t.params query own told.query_is.holds

  signs : (r : Request) → IsRequestFor t target r → IsSignedBy t.secret r found
  signs r is = record {
    text = told.signed.text;
    is_canonical = record {
      query = query;
      is_query = final_is;
      is = told.signed.is.is
          ∙ ap (canonical_text (drafted t five hs)) (told.query_is.only told.signed.is.query told.signed.is.is_query)
          ∙ ap (λ (m : List ℕ). canonical_text (record { method = m; path = t.path; params = draft_params five t.params; headers = hs }) query) (sym is.method_is)
          ∙ same_canonical r.method t.path (draft_params five t.params) all hs query;
    };
    same = told.signed.same;
  }

  in_window : (look_up : List ℕ → Option KnownKey) (r : Request) (n : Now) → Knows look_up t → IsRequestFor t target r → Admits look_up r n ↔ (HasBegun n t.start × IsNotOver n t.start t.expires)
  in_window look_up r n knows is =
      let key : KnownKey = record { secret = t.secret; revoked = false } in
      let both = admitted look_up r n found key (formed r is) knows refl in
      (λ a. let held = both.0 a in (held.1, held.2), λ window. both.1 (signs r is, window.0, window.1))

  pub link_for : IsLinkFor t target
  link_for = record {
    sound = told.sound;
    sent = (
      record { method = t.method; target = target; headers = wanted t; has_length = false; body = [] },
      record { method_is = refl; target_is = refl; given = own_given t told.sound; covered = own_covered t told.sound },
    );
    parts = found;
    says = record {
      path = refl;
      params = six.kept;
      start = refl;
      expires = refl;
      key_id = refl;
      region = told.texts.region;
      signed = told.texts.headers;
    };
    canonical = record { query = query; is_query = final_is; is = told.target_is };
    formed = formed;
    signed = signs;
    admitted = in_window;
  }

-- the same, from the results of each step of the writing
pub link_from : (t : Terms) (five : DraftValues) (scope : CredentialScope) (hs : List Header) (sig target text query : List ℕ) → AreSound t → AreTexts t five scope hs
    → AreBytes t.path → AllByRecursion HasBytes (draft_params five t.params) → IsTheOnly (IsCanonicalRequest (drafted t five hs)) text
    → ((date : List ℕ) → WritesMoment date t.start → sig ≡ signature_of t.secret date scope text)
    → IsTheOnly (IsCanonicalQuery (draft_params five t.params)) query → target ≡ uri_encoded Kept t.path ++ 63 ∷ query ++ codes "&X-Amz-Signature=" ++ sig
    → IsLinkFor t target
link_from t five scope hs sig target text query sound texts path_bytes param_bytes request same query_is target_is =
    link_for (record {
      sound = sound;
      texts = texts;
      path_bytes = path_bytes;
      param_bytes = param_bytes;
      query_is = query_is;
      signed = record { text = text; is = request.holds; same = same five.date texts.date };
      target_is = target_is;
    })
