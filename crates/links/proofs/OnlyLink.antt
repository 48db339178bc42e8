-- An order has only one link.
use Rattle.std.proofs.Common.{◌≡◌, ℕ, List, ◌∷◌, ◌++◌, map, codes, refl, sym, ap, subst, ◌∙◌}
use Rattle.std.specs.List.{join_with_byte}
use Rattle.sigtext.specs.declared.encode.Slash.TheVariants.{Kept}
use Rattle.sigtext.specs.CanonicalQuery.{IsCanonicalQuery}
use Rattle.sigtext.specs.CanonicalRequest.{Signed, canonical_text}
use Rattle.sigtext.specs.Request.{Request}
use Rattle.sigtext.specs.SignedHeaders.{Header}
use Rattle.sigtext.specs.UriEncode.{uri_encoded}
use Rattle.sigtext.proofs.Ascending.{rearranged_once}
use Rattle.sigv4.specs.Credential.{IsCredential}
use Rattle.sigv4.specs.Dates.{WritesMoment}
use Rattle.sigv4.specs.Signature.{CredentialScope, signature_of}
use Rattle.sigv4.proofs.Moments.{text_once}
use Rattle.links.specs.Admits.{signed_of, IsSignedBy}
use Rattle.links.specs.Drafts.{DraftValues}
use Rattle.links.specs.Forms.{IsExpiry}
use Rattle.links.specs.Orders.{Terms, Says, wanted, IsCanonicalTarget, IsLinkFor}
use Rattle.links.specs.WellFormed.{LinkValues}
use Rattle.links.proofs.ReadTexts.{HasTexts, texts_read}
use Rattle.links.proofs.SaidOnce.{expiry_text, credential_text, scope_said}
use Rattle.links.proofs.SameParams.{HaveValues, query_same}

-- the parts of two links for one order
pub record AreSaid (t : Terms) (p q : LinkValues) : Type 0 where
  pub says : Says t p
  pub says_too : Says t q
  pub texts : HasTexts p
  pub texts_too : HasTexts q

same_five : (a b : DraftValues) → b.credential ≡ a.credential → b.date ≡ a.date → b.expires ≡ a.expires → b.names ≡ a.names
    → b ≡ a
same_five a b credential date expires names =
    let whole : record { credential = b.credential; date = b.date; expires = b.expires; names = b.names } ≡ a =
    rw (credential, date, expires, names) refl in
    whole

-- the signed text is the same if its pieces are the same
text_same : (r s : Signed) (query other : List ℕ) → s.method ≡ r.method → s.path ≡ r.path → s.headers ≡ r.headers
    → other ≡ query
    → canonical_text s other ≡ canonical_text r query
unfolding canonical_text
text_same r s query other method path headers same = rw (method, path, headers, same) refl

module _ {t : Terms} {p q : LinkValues} (said : AreSaid t p q) where
  path : q.path ≡ p.path
  path = said.says_too.path ∙ sym said.says.path

  signed : q.signed ≡ p.signed
  signed =
      rearranged_once (λ (h : Header). h.name) (wanted t) p.signed q.signed said.says.signed said.says_too.signed
      said.texts.says_names.ascend said.texts_too.says_names.ascend

  date : said.texts_too.five.date ≡ said.texts.five.date
  date =
      text_once said.texts_too.five.date said.texts.five.date t.start
      (subst (WritesMoment said.texts_too.five.date) said.says_too.start said.texts_too.says_start)
      (subst (WritesMoment said.texts.five.date) said.says.start said.texts.says_start)

  region : q.scope.region ≡ p.scope.region
  region = said.says_too.region ∙ sym said.says.region

  scope_there : IsCredential said.texts.five.credential said.texts.five.date t.key_id p.scope
  scope_there =
      subst (λ (key : List ℕ). IsCredential said.texts.five.credential said.texts.five.date key p.scope)
      said.says.key_id said.texts.says_scope

  scope_too : IsCredential said.texts_too.five.credential said.texts.five.date t.key_id q.scope
  scope_too =
      subst (λ (key : List ℕ). IsCredential said.texts_too.five.credential said.texts.five.date key q.scope)
      said.says_too.key_id
      (subst (λ (d : List ℕ). IsCredential said.texts_too.five.credential d q.key_id q.scope) date
      said.texts_too.says_scope)

  scope : q.scope ≡ p.scope
  scope =
      scope_said said.texts.five.credential said.texts_too.five.credential said.texts.five.date t.key_id t.key_id
      p.scope q.scope scope_there scope_too region

  credential : said.texts_too.five.credential ≡ said.texts.five.credential
  credential =
      credential_text said.texts.five.credential said.texts_too.five.credential said.texts.five.date t.key_id
      p.scope q.scope scope_there scope_too region

  expires : said.texts_too.five.expires ≡ said.texts.five.expires
  expires =
      expiry_text said.texts.five.expires said.texts_too.five.expires t.expires
      (subst (IsExpiry said.texts.five.expires) said.says.expires said.texts.says_expires)
      (subst (IsExpiry said.texts_too.five.expires) said.says_too.expires said.texts_too.says_expires)

  names : said.texts_too.five.names ≡ said.texts.five.names
  names =
      said.texts_too.says_names.joined
      ∙ ap (λ (hs : List Header). join_with_byte 59 (map (λ (h : Header). h.name) hs)) signed
      ∙ sym said.texts.says_names.joined

  five : said.texts_too.five ≡ said.texts.five
  five = same_five said.texts.five said.texts_too.five credential date expires names

  dates : q.date ≡ p.date
  dates = said.texts_too.date ∙ date ∙ sym said.texts.date

  -- both have the same canonical query
  query : (text other : List ℕ) → IsCanonicalQuery p.params text → IsCanonicalQuery q.params other → other ≡ text
  query =
      query_same said.texts.five t.params p.params q.params said.texts.values
      (subst (λ (x : DraftValues). HaveValues x q.params) five said.texts_too.values) said.says.params said.says_too.params

  signature : (r s : Request) → s.method ≡ r.method → IsSignedBy t.secret r p → IsSignedBy t.secret s q
      → q.signature ≡ p.signature
  signature r s method a b =
      let same = query a.is_canonical.query b.is_canonical.query a.is_canonical.is_query b.is_canonical.is_query in
      let text = b.is_canonical.is
      ∙ text_same (signed_of r p) (signed_of s q) a.is_canonical.query b.is_canonical.query method path signed same
      ∙ sym a.is_canonical.is in
      b.same
      ∙ ap (λ (d : List ℕ). signature_of t.secret d q.scope b.text) dates
      ∙ ap (λ (x : CredentialScope). signature_of t.secret p.date x b.text) scope
      ∙ ap (signature_of t.secret p.date p.scope) text
      ∙ sym a.same

  target : (a b : List ℕ) → IsCanonicalTarget p a → IsCanonicalTarget q b → q.signature ≡ p.signature → b ≡ a
  target a b c d sig =
      let same = query c.query d.query c.is_query d.is_query in
      d.is
      ∙ ap (λ (x : List ℕ). uri_encoded Kept x ++ 63 ∷ d.query ++ codes "&X-Amz-Signature=" ++ q.signature) path
      ∙ ap (λ (x : List ℕ). uri_encoded Kept p.path ++ 63 ∷ x ++ codes "&X-Amz-Signature=" ++ q.signature) same
      ∙ ap (λ (x : List ℕ). uri_encoded Kept p.path ++ 63 ∷ c.query ++ codes "&X-Amz-Signature=" ++ x) sig
      ∙ sym c.is

-- two links for one order are equal
pub only_link : (t : Terms) (a b : List ℕ) → IsLinkFor t a → IsLinkFor t b → b ≡ a
only_link t a b h k =
    let (r, is) = h.sent in
    let (s, is_too) = k.sent in
    let said : AreSaid t h.parts k.parts = record {
      says = h.says;
      says_too = k.says;
      texts = texts_read r h.parts (h.formed r is);
      texts_too = texts_read s k.parts (k.formed s is_too);
    } in
    let method = is_too.method_is ∙ sym is.method_is in
    target said a b h.canonical k.canonical (signature said r s method (h.signed r is) (k.signed s is_too))
