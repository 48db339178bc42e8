-- A canonical query is the text of only one list of parameters, and contains no line feed.
use Rattle.std.proofs.Common.{◌≡◌, ℕ, false, eqb, List, [], ◌∷◌, ◌++◌, map, Some, refl, sym, ap, ◌∙◌, All, arith}
use Rattle.std.specs.Prelude.{IsTrue}
use Rattle.std.specs.List.{AllByRecursion, slice_split, join_with_byte}
use Rattle.std.proofs.lemmas.Bool.Decides.{nat_tests}
use Rattle.std.proofs.lemmas.List.Elements.{All-nil, All-cons, All-append}
use Rattle.sigtext.specs.declared.encode.Slash.{Slash}
use Rattle.sigtext.specs.declared.encode.Slash.TheVariants.{Kept, Encoded}
use Rattle.sigtext.specs.Bytes.{AreBytes}
use Rattle.sigtext.specs.CanonicalQuery.{param_text}
use Rattle.sigtext.specs.SameText.{IsPlainParam}
use Rattle.sigtext.specs.Spelling.{may_stand}
use Rattle.sigtext.specs.Target.{Param}
use Rattle.sigtext.specs.UriEncode.{stays, uri_encoded}
use Rattle.sigtext.proofs.Cuts.{cut_once, split_joined}
use Rattle.sigtext.proofs.EncodedSpells.{encoded_spells, path_stands, name_stands}
use Rattle.sigtext.proofs.Readings.{Separates, lacks, name_equals, name_ampersand, some_is}
use Rattle.sigtext.proofs.SpellingLemmas.{spelled_from}

-- ---- encoded texts

-- an encoded text encodes only one list of bytes
encoded_once : (slash : Slash) (barred xs ys : List ℕ) → ((b : ℕ) → IsTrue (stays slash b) → IsTrue (may_stand barred b)) → AreBytes xs → AreBytes ys
    → uri_encoded slash xs ≡ uri_encoded slash ys → xs ≡ ys
encoded_once slash barred xs ys stand small_x small_y e =
    let one = spelled_from barred (uri_encoded slash xs) xs (encoded_spells slash barred xs stand small_x) in
    let two = spelled_from barred (uri_encoded slash ys) ys (encoded_spells slash barred ys stand small_y) in
    let same : Some xs ≡ Some ys = cc in
    some_is xs ys same

pub encoded_path_once : (xs ys : List ℕ) → AreBytes xs → AreBytes ys → uri_encoded Kept xs ≡ uri_encoded Kept ys → xs ≡ ys
encoded_path_once xs ys = encoded_once Kept (63 ∷ []) xs ys path_stands

encoded_name_once : (xs ys : List ℕ) → AreBytes xs → AreBytes ys → uri_encoded Encoded xs ≡ uri_encoded Encoded ys → xs ≡ ys
encoded_name_once xs ys = encoded_once Encoded (38 ∷ 61 ∷ []) xs ys name_stands

-- a byte that no spelling contains is not in the encoded text
encoded_lacks : (c : ℕ) (bytes : List ℕ) → Separates (38 ∷ 61 ∷ []) c → AreBytes bytes → All (λ x. eqb x c ≡ false) (uri_encoded Encoded bytes)
encoded_lacks c bytes sep small = lacks (38 ∷ 61 ∷ []) c (uri_encoded Encoded bytes) bytes sep (encoded_spells Encoded (38 ∷ 61 ∷ []) bytes name_stands small)

path_line_feed : Separates (63 ∷ []) 10
path_line_feed = record { raw_other = λ x h. grind (arith, nat_tests); percent_other = refl; digit_other = λ x h. grind (arith, nat_tests) }

name_line_feed : Separates (38 ∷ 61 ∷ []) 10
name_line_feed = record { raw_other = λ x h. grind (arith, nat_tests); percent_other = refl; digit_other = λ x h. grind (arith, nat_tests) }

pub path_lacks : (bytes : List ℕ) → AreBytes bytes → All (λ x. eqb x 10 ≡ false) (uri_encoded Kept bytes)
path_lacks bytes small = lacks (63 ∷ []) 10 (uri_encoded Kept bytes) bytes path_line_feed (encoded_spells Kept (63 ∷ []) bytes path_stands small)

-- ---- one parameter

text_lacks : (c : ℕ) (p : Param) → Separates (38 ∷ 61 ∷ []) c → eqb 61 c ≡ false → IsPlainParam p → All (λ x. eqb x c ≡ false) (param_text p)
text_lacks c p sep other h =
    All-append (λ x. eqb x c ≡ false) (uri_encoded Encoded p.name) (61 ∷ uri_encoded Encoded p.value) (encoded_lacks c p.name sep h.name_bytes)
    (All-cons (λ x. eqb x c ≡ false) 61 (uri_encoded Encoded p.value) other (encoded_lacks c p.value sep h.value_bytes))

same_param : (p q : Param) → p.name ≡ q.name → p.value ≡ q.value → p ≡ q
same_param p q n v =
    let made : List ℕ → List ℕ → Param = λ name value. record { name = name; value = value } in
    ap (λ (name : List ℕ). made name p.value) n ∙ ap (made q.name) v

text_once : (p q : Param) → IsPlainParam p → IsPlainParam q → param_text p ≡ param_text q → p ≡ q
text_once p q h k e =
    let parts = cut_once 61 (uri_encoded Encoded p.name) (uri_encoded Encoded p.value) (uri_encoded Encoded q.name) (uri_encoded Encoded q.value)
    (encoded_lacks 61 p.name name_equals h.name_bytes) (encoded_lacks 61 q.name name_equals k.name_bytes) e in
    same_param p q (encoded_name_once p.name q.name h.name_bytes k.name_bytes parts.0) (encoded_name_once p.value q.value h.value_bytes k.value_bytes parts.1)

-- ---- all of them

texts_lack : (c : ℕ) (ps : List Param) → Separates (38 ∷ 61 ∷ []) c → eqb 61 c ≡ false → AllByRecursion IsPlainParam ps
    → AllByRecursion (All (λ x. eqb x c ≡ false)) (map param_text ps)
texts_lack c [] sep other h = tt
texts_lack c (p ∷ ps) sep other h = (text_lacks c p sep other h.0, texts_lack c ps sep other h.1)

texts_once : (ps qs : List Param) → AllByRecursion IsPlainParam ps → AllByRecursion IsPlainParam qs → map param_text ps ≡ map param_text qs → ps ≡ qs
texts_once [] [] h k e = refl
texts_once [] (q ∷ qs) h k e = absurd cc
texts_once (p ∷ ps) [] h k e = absurd cc
texts_once (p ∷ ps) (q ∷ qs) h k e =
    let first : param_text p ≡ param_text q = cc in
    let others : map param_text ps ≡ map param_text qs = cc in
    cc (text_once p q h.0 k.0 first, texts_once ps qs h.1 k.1 others)

joined_lacks : (j c : ℕ) (texts : List (List ℕ)) → eqb j c ≡ false → AllByRecursion (All (λ x. eqb x c ≡ false)) texts → All (λ x. eqb x c ≡ false) (join_with_byte j texts)
joined_lacks j c [] other h = All-nil (λ x. eqb x c ≡ false)
joined_lacks j c (text ∷ []) other h = h.0
joined_lacks j c (text ∷ next ∷ texts) other h =
    All-append (λ x. eqb x c ≡ false) text (j ∷ join_with_byte j (next ∷ texts)) h.0
    (All-cons (λ x. eqb x c ≡ false) j (join_with_byte j (next ∷ texts)) other (joined_lacks j c (next ∷ texts) other h.1))

abbrev query : List Param → List ℕ
query ps = join_with_byte 38 (map param_text ps)

pub query_lacks : (ps : List Param) → AllByRecursion IsPlainParam ps → All (λ x. eqb x 10 ≡ false) (query ps)
query_lacks ps h = joined_lacks 38 10 (map param_text ps) refl (texts_lack 10 ps name_line_feed refl h)

-- the texts are the pieces of the query
pieces : (p : Param) (ps : List Param) → AllByRecursion IsPlainParam (p ∷ ps) → slice_split (λ x. eqb x 38) (query (p ∷ ps)) ≡ map param_text (p ∷ ps)
pieces p ps h = split_joined 38 (map param_text (p ∷ ps)) (omega arith) (texts_lack 38 (p ∷ ps) name_ampersand refl h)

-- a parameter's text contains `=`, so it is not empty
begun : (front rest : List ℕ) (b : ℕ) → [] ≡ front ++ b ∷ rest → ⊥
begun [] rest b e = cc
begun (x ∷ front) rest b e = cc

not_empty : (p : Param) (ps : List Param) → [] ≡ query (p ∷ ps) → ⊥
not_empty p [] e = begun (uri_encoded Encoded p.name) (uri_encoded Encoded p.value) 61 e
not_empty p (next ∷ ps) e = begun (param_text p) (query (next ∷ ps)) 38 e

pub query_text_once : (ps qs : List Param) → AllByRecursion IsPlainParam ps → AllByRecursion IsPlainParam qs → query ps ≡ query qs → ps ≡ qs
query_text_once [] [] h k e = refl
query_text_once [] (q ∷ qs) h k e = absurd (not_empty q qs e)
query_text_once (p ∷ ps) [] h k e = absurd (not_empty p ps (sym e))
query_text_once (p ∷ ps) (q ∷ qs) h k e =
    texts_once (p ∷ ps) (q ∷ qs) h k (sym (pieces p ps h) ∙ ap (slice_split (λ x. eqb x 38)) e ∙ pieces q qs k)
