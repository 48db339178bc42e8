-- A target has at most one parse, a request one canonical text, and a list of names one list of signed values.
use Rattle.std.proofs.Common.{◌≡◌, ℕ, List, [], ◌∷◌, ap, sym, ◌∙◌, refl}
use Rattle.std.specs.List.{join_with_byte}
use Rattle.std.specs.Prelude.{map}
use Rattle.sigtext.specs.declared.encode.Slash.TheVariants.{Encoded}
use Rattle.sigtext.specs.UriEncode.{uri_encoded}
use Rattle.sigtext.specs.Target.{Param, IsTargetOf}
use Rattle.sigtext.specs.CanonicalQuery.{signed_params, param_text, IsCanonicalQuery}
use Rattle.sigtext.specs.SignedHeaders.{Header, IsSignedValue, AreSignedValues}
use Rattle.sigtext.specs.CanonicalRequest.{Signed, canonical_text, IsCanonicalRequest}
use Rattle.sigtext.proofs.Readings.{target_from, path_once, params_once}
use Rattle.sigtext.proofs.Ascending.{rearranged_once}

pub target_once : (target path other : List ℕ) (params others : List Param) → IsTargetOf target path params → IsTargetOf target other others → (other ≡ path) × (others ≡ params)
target_once target path other params others a b =
    let one = target_from target path params a in
    let two = target_from target other others b in
    (path_once target path other one.0 two.0, params_once target params others one.1 two.1)

pub query_once : (params : List Param) (text other : List ℕ) → IsCanonicalQuery params text → IsCanonicalQuery params other → other ≡ text
query_once params text other a b =
    let same = rearranged_once (λ (p : Param). uri_encoded Encoded p.name) (signed_params params) a.ordered b.ordered a.rearranged b.rearranged a.ascend b.ascend in
    b.joined ∙ ap (λ (ps : List Param). join_with_byte 38 (map param_text ps)) same ∙ sym a.joined

pub canonical_once : (r : Signed) (text other : List ℕ) → IsCanonicalRequest r text → IsCanonicalRequest r other → other ≡ text
canonical_once r text other a b = b.is ∙ ap (canonical_text r) (query_once r.params a.query b.query a.is_query b.is_query) ∙ sym a.is

value_once : (headers : List Header) (name value other : List ℕ) → IsSignedValue headers name value → IsSignedValue headers name other → other ≡ value
value_once headers name value other (h, is, at) (h', is', at') = let e = sym is' ∙ is in cc

pub same_header : (s t : Header) → t.name ≡ s.name → t.value ≡ s.value → t ≡ s
same_header s t n v =
    let made : List ℕ → List ℕ → Header = λ name value. record { name = name; value = value } in
    ap (λ (name : List ℕ). made name t.value) n ∙ ap (made s.name) v

pub values_once : (headers : List Header) (names : List (List ℕ)) (signed others : List Header) → AreSignedValues headers names signed → AreSignedValues headers names others → others ≡ signed
values_once headers [] [] [] a b = refl
values_once headers [] (s ∷ signed) others a b = absurd a
values_once headers [] [] (t ∷ others) a b = absurd b
values_once headers (name ∷ names) [] others a b = absurd a
values_once headers (name ∷ names) (s ∷ signed) [] a b = absurd b
values_once headers (name ∷ names) (s ∷ signed) (t ∷ others) a b =
    let first = same_header s t (b.0 ∙ sym a.0) (value_once headers name s.value t.value a.1 b.1) in
    cc (first, values_once headers names signed others a.2 b.2)
