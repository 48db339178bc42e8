-- The canonical text of a request's parts.
use Rattle.std.proofs.Common.{◌≡◌, ℕ, List, [], ◌∷◌, ◌++◌, map, codes, sym, ap, ◌∙◌, append_assoc}
use Rattle.std.specs.Prelude.{not}
use Rattle.std.specs.List.{join_with_byte}
use Rattle.percent_encoding.specs.Percent.{percent_decode}
use Rattle.sigtext.specs.declared.encode.Slash.TheVariants.{Kept, Encoded}
use Rattle.sigtext.specs.declared.canonical.Parts.{Parts}
use Rattle.sigtext.specs.declared.params.Params.{Params}
use Rattle.sigtext.specs.Bytes.{same_bytes}
use Rattle.sigtext.specs.CanonicalQuery.{signed_params, param_text, IsCanonicalQuery}
use Rattle.sigtext.specs.CanonicalRequest.{Signed, canonical_text, IsCanonicalRequest, IsTheOnly}
use Rattle.sigtext.specs.Decoded.{decoded_param}
use Rattle.sigtext.specs.SignedHeaders.{Header, canonical_headers, signed_headers}
use Rattle.sigtext.specs.Signing.{HoldsParams, AreOf, values_of}
use Rattle.sigtext.specs.Target.{Param}
use Rattle.sigtext.specs.UriEncode.{uri_encoded}
use Rattle.sigtext.proofs.Filtered.{IsPermutation-filter, ascends-filter}
use Rattle.sigtext.proofs.OrderedParams.{are_decoded}
use Rattle.sigtext.proofs.Targets.{decoded}
use Rattle.sigtext.proofs.Uniqueness.{canonical_once, query_once}

-- ---- the parameters

-- the canonical query of the parameters
abbrev pub query_of : Params → List ℕ
query_of sorted = join_with_byte 38 (map param_text (signed_params (map decoded_param sorted.items.items)))

query_is : (sorted : Params) (params : List Param) → HoldsParams sorted params → IsCanonicalQuery params (query_of sorted)
query_is sorted params h = record {
  ordered = signed_params h.ordered;
  rearranged = IsPermutation-filter (λ p. not (same_bytes p.name (codes "X-Amz-Signature"))) params h.ordered h.rearranged;
  ascend = ascends-filter (λ p. uri_encoded Encoded p.name) (λ p. not (same_bytes p.name (codes "X-Amz-Signature"))) h.ordered h.ascend;
  joined = ap (λ (ps : List Param). join_with_byte 38 (map param_text (signed_params ps))) (are_decoded sorted.items.items h.ordered h.spelled);
}

-- it is the only one
pub query_of-is : (sorted : Params) (params : List Param) → HoldsParams sorted params → IsTheOnly (IsCanonicalQuery params) (query_of sorted)
query_of-is sorted params h =
    let is = query_is sorted params h in
    record { holds = is; only = λ other held. query_once params (query_of sorted) other is held }

-- ---- the whole text

-- the six parts in order
abbrev pub in_row : List ℕ → List ℕ → List ℕ → List Header → List ℕ
in_row method path query headers =
    (method ++ 10 ∷ []) ++ ((uri_encoded Kept path ++ 10 ∷ []) ++ (query ++ (10 ∷ ((canonical_headers headers ++ 10 ∷ []) ++ (signed_headers headers ++ (10 ∷ codes "UNSIGNED-PAYLOAD"))))))

-- six lines, grouped from the left and from the right
pub six_lines : (a b c d e f : List ℕ) → a ++ 10 ∷ b ++ 10 ∷ c ++ 10 ∷ d ++ 10 ∷ e ++ 10 ∷ f ≡ a ++ 10 ∷ (b ++ 10 ∷ (c ++ 10 ∷ (d ++ 10 ∷ (e ++ 10 ∷ f))))
six_lines a b c d e f =
    let last = e ++ 10 ∷ f in
    let later = d ++ 10 ∷ last in
    let front = a ++ 10 ∷ b ++ 10 ∷ c in
    append_assoc (front ++ 10 ∷ d) (10 ∷ e) (10 ∷ f) ∙ append_assoc front (10 ∷ d) (10 ∷ last) ∙ append_assoc (a ++ 10 ∷ b) (10 ∷ c) (10 ∷ later) ∙ append_assoc a (10 ∷ b) (10 ∷ (c ++ 10 ∷ later))

regrouped : (a b c d e f : List ℕ)
    → (a ++ 10 ∷ []) ++ ((b ++ 10 ∷ []) ++ (c ++ (10 ∷ ((d ++ 10 ∷ []) ++ (e ++ (10 ∷ f)))))) ≡ a ++ 10 ∷ b ++ 10 ∷ c ++ 10 ∷ d ++ 10 ∷ e ++ 10 ∷ f
regrouped a b c d e f =
    let last = e ++ 10 ∷ f in
    append_assoc a (10 ∷ []) _ ∙ ap (λ (t : List ℕ). a ++ 10 ∷ t) (append_assoc b (10 ∷ []) (c ++ 10 ∷ ((d ++ 10 ∷ []) ++ last)))
    ∙ ap (λ (t : List ℕ). a ++ 10 ∷ (b ++ 10 ∷ (c ++ 10 ∷ t))) (append_assoc d (10 ∷ []) last) ∙ sym (six_lines a b c d e f)

in_row-is : (r : Signed) (query : List ℕ) → in_row r.method r.path query r.headers ≡ canonical_text r query
unfolding canonical_text
in_row-is r query = regrouped r.method (uri_encoded Kept r.path) query (canonical_headers r.headers) (signed_headers r.headers) (codes "UNSIGNED-PAYLOAD")

-- the text of the parts
abbrev pub text_of : Parts → List ℕ
text_of parts = in_row parts.method.now (percent_decode parts.target.path.now) (query_of parts.params) (values_of parts.values)

-- it is the canonical request of the parts, and the only one
pub text_of-is : (parts : Parts) (signed : Signed) → AreOf parts signed → IsTheOnly (IsCanonicalRequest signed) (text_of parts)
text_of-is parts signed are =
    let path = decoded _ parts.target.path.now signed.path are.path in
    let is : text_of parts ≡ canonical_text signed (query_of parts.params) =
    ap (λ (t : List ℕ). in_row t (percent_decode parts.target.path.now) (query_of parts.params) (values_of parts.values)) (sym are.method)
    ∙ ap (λ (t : List ℕ). in_row signed.method t (query_of parts.params) (values_of parts.values)) path
    ∙ ap (in_row signed.method signed.path (query_of parts.params)) (sym are.headers)
    ∙ in_row-is signed (query_of parts.params) in
    let request : IsCanonicalRequest signed (text_of parts) = record { query = query_of parts.params; is_query = query_is parts.params signed.params are.params; is = is } in
    record { holds = request; only = λ other h. canonical_once signed (text_of parts) other request h }
