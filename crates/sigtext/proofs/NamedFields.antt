-- Searching the fields of a request in order for those with a name.
use Rattle.std.proofs.Common.{◌≡◌, ℕ, ◌+◌, ◌<◌, Bool, true, cond, List, [], ◌∷◌, ◌++◌, length, map, take, drop, get_or, sym, ap, Option, Some, None, ◌∙◌}
use Rattle.std.specs.Prelude.{is_some}
use Rattle.std.proofs.lemmas.Bool.{cond-true}
use Rattle.std.proofs.lemmas.List.{take_more, take-append-drop, map-append}
use Rattle.std.proofs.lemmas.List.Elements.{filter-append}
use Rattle.sigtext.specs.declared.field.Field.{Field}
use Rattle.sigtext.specs.Bytes.{same_bytes}
use Rattle.sigtext.specs.Fields.{header_of}
use Rattle.sigtext.specs.SignedHeaders.{Header, lower_case, named}

-- what was found: nothing, or the one header
abbrev pub IsFoundIn : List Header → Option Field → Type 0
IsFoundIn headers None = headers ≡ []
IsFoundIn headers (Some f) = headers ≡ header_of f ∷ []

-- whether the field has this lower-case name
abbrev pub has_name : List ℕ → Field → Bool
has_name name f = same_bytes (lower_case f.name.now) name

-- the headers of this lower-case name among the first i fields
abbrev pub named_before : List ℕ → List Field → ℕ → List Header
named_before name fields i = named name (map header_of (take i fields))

named_more : (name : List ℕ) (fields : List Field) (i : ℕ) (d : Field) → i < length fields
    → named_before name fields (i + 1) ≡ named_before name fields i ++ cond (has_name name (get_or fields i d)) (header_of (get_or fields i d) ∷ []) []
named_more name fields i d within =
    ap (λ fs. named name (map header_of fs)) (take_more fields i d within)
    ∙ ap (named name) (map-append header_of (take i fields) (get_or fields i d ∷ []))
    ∙ filter-append (λ h. same_bytes (lower_case h.name) name) (map header_of (take i fields)) (header_of (get_or fields i d) ∷ [])

named_whole : (name : List ℕ) (fields : List Field) (i : ℕ) → named name (map header_of fields) ≡ named_before name fields i ++ named name (map header_of (drop i fields))
named_whole name fields i =
    ap (λ fs. named name (map header_of fs)) (sym (take-append-drop i fields))
    ∙ ap (named name) (map-append header_of (take i fields) (drop i fields))
    ∙ filter-append (λ h. same_bytes (lower_case h.name) name) (map header_of (take i fields)) (map header_of (drop i fields))

one_more : (name : List ℕ) (fields : List Field) (i : ℕ) (d : Field) → i < length fields → has_name name (get_or fields i d) ≡ true
    → named_before name fields (i + 1) ≡ named_before name fields i ++ header_of (get_or fields i d) ∷ []
one_more name fields i d within here = named_more name fields i d within ∙ ap (λ hs. named_before name fields i ++ hs) (cond-true _ _ _ here)

found_one : (headers : List Header) (o : Option Field) → is_some o ≡ true → IsFoundIn headers o → (h : Header) × (headers ≡ h ∷ [])
found_one headers None e f = absurd cc
found_one headers (Some v) e f = (header_of v, f)

-- a list with two first elements is not a list of one
not_one : (x y z : Header) (ys : List Header) → ((x ∷ []) ++ (y ∷ [])) ++ ys ≡ z ∷ [] → ⊥
not_one x y z ys e = cc

-- a second field with the name
pub is_doubled : (name : List ℕ) (fields : List Field) (i : ℕ) (d : Field) (found : Option Field) → i < length fields → has_name name (get_or fields i d) ≡ true
    → is_some found ≡ true → IsFoundIn (named_before name fields i) found → (h : Header) → named name (map header_of fields) ≡ h ∷ [] → ⊥
is_doubled name fields i d found within here some sofar h one =
    let first = found_one (named_before name fields i) found some sofar in
    let rest = named name (map header_of (drop (i + 1) fields)) in
    let two = one_more name fields i d within here ∙ ap (λ hs. hs ++ header_of (get_or fields i d) ∷ []) first.1 in
    not_one first.0 (header_of (get_or fields i d)) h rest (sym (named_whole name fields (i + 1) ∙ ap (λ hs. hs ++ rest) two) ∙ one)
