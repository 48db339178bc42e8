-- Requests with the same canonical text: each part ends at the next line feed, and is the text of only one value.
use Rattle.std.proofs.Common.{◌≡◌, ◌≢◌, ℕ, false, eqb, List, [], ◌∷◌, ◌++◌, codes, refl, sym, ap, ◌∙◌, subst, append_assoc, All, arith}
use Rattle.std.specs.Prelude.{IsPermutation}
use Rattle.std.specs.List.{list_all, AllByRecursion}
use Rattle.std.proofs.lemmas.Bool.{and_parts, ne_eqb, false≢true}
use Rattle.std.proofs.lemmas.List.Elements.{All-from_recursion, recursion_from_All, All-weaker}
use Rattle.std.proofs.lemmas.List.Sorted.{All-permutation, IsPermutation-sym, IsPermutation-trans}
use Rattle.sigtext.specs.declared.encode.Slash.TheVariants.{Kept}
use Rattle.sigtext.specs.CanonicalQuery.{signed_params, IsCanonicalQuery}
use Rattle.sigtext.specs.CanonicalRequest.{Signed, canonical_text, IsCanonicalRequest}
use Rattle.sigtext.specs.SameText.{IsOneLine, IsPlainParam, IsPlainHeader, IsPlain, AreSameSigned}
use Rattle.sigtext.specs.SignedHeaders.{Header, canonical_headers, signed_headers}
use Rattle.sigtext.specs.SignedNames.{is_header_name_byte, IsHeaderName}
use Rattle.sigtext.specs.UriEncode.{uri_encoded}
use Rattle.sigtext.proofs.CanonicalTexts.{six_lines}
use Rattle.sigtext.proofs.Cuts.{cut_once, lacks_failing}
use Rattle.sigtext.proofs.QueryTexts.{encoded_path_once, path_lacks, query_lacks, query_text_once}
use Rattle.sigtext.proofs.Uniqueness.{same_header}

-- ---- the headers

-- the first header's name and value, each with what ends it, before the rest
line_first : (name value lines last : List ℕ) → (name ++ 58 ∷ value ++ 10 ∷ []) ++ lines ++ 10 ∷ last ≡ name ++ 58 ∷ (value ++ 10 ∷ (lines ++ 10 ∷ last))
line_first name value lines last = simp append_assoc

-- a name does not begin with a line feed
begins_name : (name rest last : List ℕ) → IsHeaderName name → 10 ∷ last ≡ name ++ rest → ⊥
begins_name [] rest last h e = absurd (omega (arith, h.some))
begins_name (b ∷ name) rest last h e =
    let same : 10 ≡ b = cc in
    false≢true (ap is_header_name_byte same ∙ (and_parts (is_header_name_byte b) (list_all is_header_name_byte name) h.each).0)

no_header : (h : Header) (hs : List Header) (last other : List ℕ) → IsPlainHeader h → 10 ∷ last ≡ canonical_headers (h ∷ hs) ++ 10 ∷ other → ⊥
no_header h hs last other plain e =
    begins_name h.name _ last plain.name_form (e ∙ line_first h.name h.value (canonical_headers hs) other)

-- the headers' lines, ended by an empty one, are those of one list of headers
headers_once : (hs ks : List Header) (last other : List ℕ) → AllByRecursion IsPlainHeader hs → AllByRecursion IsPlainHeader ks
    → canonical_headers hs ++ 10 ∷ last ≡ canonical_headers ks ++ 10 ∷ other → hs ≡ ks
headers_once [] [] last other p q e = refl
headers_once [] (k ∷ ks) last other p q e = absurd (no_header k ks last other q.0 e)
headers_once (h ∷ hs) [] last other p q e = absurd (no_header h hs other last p.0 (sym e))
headers_once (h ∷ hs) (k ∷ ks) last other p q e =
    let whole = sym (line_first h.name h.value (canonical_headers hs) last) ∙ e ∙ line_first k.name k.value (canonical_headers ks) other in
    let name = cut_once 58 h.name (h.value ++ 10 ∷ (canonical_headers hs ++ 10 ∷ last)) k.name (k.value ++ 10 ∷ (canonical_headers ks ++ 10 ∷ other))
    (lacks_failing is_header_name_byte 58 h.name refl p.0.name_form.each) (lacks_failing is_header_name_byte 58 k.name refl q.0.name_form.each) whole in
    let value = cut_once 10 h.value (canonical_headers hs ++ 10 ∷ last) k.value (canonical_headers ks ++ 10 ∷ other)
    (lacks_failing _ 10 h.value refl p.0.value_form.plain) (lacks_failing _ 10 k.value refl q.0.value_form.plain) name.1 in
    cc (same_header k h name.0 value.0, headers_once hs ks last other p.1 q.1 value.1)

-- ---- the whole text

-- the text after the method, the path and the query
abbrev behind : List Header → List ℕ
behind headers = canonical_headers headers ++ 10 ∷ (signed_headers headers ++ 10 ∷ codes "UNSIGNED-PAYLOAD")

text_lines : (r : Signed) (query : List ℕ) → canonical_text r query ≡ r.method ++ 10 ∷ (uri_encoded Kept r.path ++ 10 ∷ (query ++ 10 ∷ behind r.headers))
unfolding canonical_text
text_lines r query = six_lines r.method (uri_encoded Kept r.path) query (canonical_headers r.headers) (signed_headers r.headers) (codes "UNSIGNED-PAYLOAD")

one_line : (text : List ℕ) → IsOneLine text → All (λ x. eqb x 10 ≡ false) text
one_line text h = All-weaker (λ b. b ≢ 10) (λ b. eqb b 10 ≡ false) (λ b other. ne_eqb b 10 other) text (All-from_recursion (λ b. b ≢ 10) text h)

-- the parameters in their order are as plain as before
ordered_plain : (r : Signed) (query : List ℕ) (q : IsCanonicalQuery r.params query) → IsPlain r → AllByRecursion IsPlainParam q.ordered
ordered_plain r query q plain =
    recursion_from_All IsPlainParam q.ordered (All-permutation IsPlainParam (signed_params r.params) q.ordered q.rearranged (All-from_recursion IsPlainParam (signed_params r.params) plain.params))

query_plain : (r : Signed) (query : List ℕ) (q : IsCanonicalQuery r.params query) → IsPlain r → All (λ x. eqb x 10 ≡ false) query
query_plain r query q plain = subst (All (λ x. eqb x 10 ≡ false)) (sym q.joined) (query_lacks q.ordered (ordered_plain r query q plain))

params_once : (a b : Signed) (x y : List ℕ) → IsCanonicalQuery a.params x → IsCanonicalQuery b.params y → IsPlain a → IsPlain b → x ≡ y
    → IsPermutation (signed_params a.params) (signed_params b.params)
params_once a b x y p q plain_a plain_b e =
    let same = query_text_once p.ordered q.ordered (ordered_plain a x p plain_a) (ordered_plain b y q plain_b) (sym p.joined ∙ e ∙ q.joined) in
    let to = subst (IsPermutation (signed_params a.params)) same p.rearranged in
    IsPermutation-trans (signed_params a.params) q.ordered (signed_params b.params) to (IsPermutation-sym (signed_params b.params) q.ordered q.rearranged)

pub same_text : (a b : Signed) (text : List ℕ) → IsPlain a → IsPlain b → IsCanonicalRequest a text → IsCanonicalRequest b text → AreSameSigned a b
same_text a b text plain_a plain_b one two =
    let whole = sym (text_lines a one.query) ∙ sym one.is ∙ two.is ∙ text_lines b two.query in
    let method = cut_once 10 a.method (uri_encoded Kept a.path ++ 10 ∷ (one.query ++ 10 ∷ behind a.headers)) b.method (uri_encoded Kept b.path ++ 10 ∷ (two.query ++ 10 ∷ behind b.headers))
    (one_line a.method plain_a.method) (one_line b.method plain_b.method) whole in
    let path = cut_once 10 (uri_encoded Kept a.path) (one.query ++ 10 ∷ behind a.headers) (uri_encoded Kept b.path) (two.query ++ 10 ∷ behind b.headers)
    (path_lacks a.path plain_a.path) (path_lacks b.path plain_b.path) method.1 in
    let query = cut_once 10 one.query (behind a.headers) two.query (behind b.headers)
    (query_plain a one.query one.is_query plain_a) (query_plain b two.query two.is_query plain_b) path.1 in
    record {
      method = method.0;
      path = encoded_path_once a.path b.path plain_a.path plain_b.path path.0;
      params = params_once a b one.query two.query one.is_query two.is_query plain_a plain_b query.0;
      headers = headers_once a.headers b.headers (signed_headers a.headers ++ 10 ∷ codes "UNSIGNED-PAYLOAD") (signed_headers b.headers ++ 10 ∷ codes "UNSIGNED-PAYLOAD") plain_a.headers plain_b.headers query.1;
    }
