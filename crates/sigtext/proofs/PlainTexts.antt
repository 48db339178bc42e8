-- Texts that spell and encode themselves, and joined texts.
use Rattle.std.proofs.Common.{◌≡◌, ℕ, List, [], ◌∷◌, ◌++◌, refl, sym, ap, ◌∙◌, append_assoc, subst}
use Rattle.std.specs.Prelude.{IsTrue, codes}
use Rattle.std.specs.List.{list_all}
use Rattle.std.proofs.lemmas.Bool.{and_parts, cond-true}
use Rattle.std.proofs.lemmas.Grind.{flat_map-append}
use Rattle.sigtext.specs.declared.encode.Slash.{Slash}
use Rattle.sigtext.specs.declared.encode.Slash.TheVariants.{Encoded}
use Rattle.sigtext.specs.Spelling.{may_stand, raw, escaped, Spells}
use Rattle.sigtext.specs.UriEncode.{stays, encoded_byte, uri_encoded}

-- a text of bytes that may stand for themselves spells itself
pub spells_plain : (barred text : List ℕ) → IsTrue (list_all (may_stand barred) text) → Spells barred text text
spells_plain barred [] h = refl
spells_plain barred (b ∷ text) h =
    let parts = and_parts (may_stand barred b) (list_all (may_stand barred) text) h in
    (b ∷ [], text, refl, raw b parts.0, spells_plain barred text parts.1)

pub spells_append : (barred a b x y : List ℕ) → Spells barred a x → Spells barred b y → Spells barred (a ++ b) (x ++ y)
spells_append barred a b [] y s t = subst (λ (u : List ℕ). Spells barred (u ++ b) y) (sym s) t
spells_append barred a b (c ∷ x) y (piece, rest, is, spells, later) t =
    (piece, rest ++ b, ap (λ (u : List ℕ). u ++ b) is ∙ append_assoc piece rest b, spells, spells_append barred rest b x y later t)

-- `%2F` spells `/`
pub spells_slash : (barred : List ℕ) → Spells barred (codes "%2F") (codes "/")
spells_slash barred = (codes "%2F", [], refl, escaped 50 70 refl refl, refl)

-- a text of bytes that are kept is its own encoding
pub encoded_plain : (slash : Slash) (text : List ℕ) → IsTrue (list_all (stays slash) text) → uri_encoded slash text ≡ text
unfolding uri_encoded
encoded_plain slash [] h = refl
encoded_plain slash (b ∷ text) h =
    let parts = and_parts (stays slash b) (list_all (stays slash) text) h in
    ap (λ (front : List ℕ). front ++ uri_encoded slash text) (cond-true _ _ _ parts.0) ∙ ap (λ (t : List ℕ). b ∷ t) (encoded_plain slash text parts.1)

pub encoded_append : (slash : Slash) (a b : List ℕ) → uri_encoded slash (a ++ b) ≡ uri_encoded slash a ++ uri_encoded slash b
unfolding uri_encoded
encoded_append slash a b = flat_map-append (encoded_byte slash) a b

pub encoded_nothing : (slash : Slash) → uri_encoded slash [] ≡ []
unfolding uri_encoded
encoded_nothing slash = refl

pub encoded_slash : uri_encoded Encoded (codes "/") ≡ codes "%2F"
unfolding uri_encoded
encoded_slash = refl
