-- Edge cases of names: which names a rule accepts, and which texts are names.
use Rattle.std.proofs.Common.{◌≡◌, ◌<◌, ◌+◌, ℕ, zero, suc, List, [], ◌∷◌, ◌++◌, length, drop, get_or, codes, lit<, arith, refl, sym, ap, ◌∙◌, length-append}
use Rattle.std.specs.Prelude.{slice_index_or, IsUtf8}
use Rattle.std.specs.Str.{IsAscii}
use Rattle.std.proofs.lemmas.List.{drop_at}
use Rattle.std.proofs.lemmas.Str.{IsUtf8-from_ascii}
use Rattle.boxes.specs.State.{AnyName, Ends, Begins}
use Rattle.boxes.specs.Opening.{Fits}
use Rattle.boxes.specs.Rules.{IsName}

-- the rule `AnyName`
pub any_name : (name : List ℕ) → Fits AnyName name
any_name name = tt

-- ---- the rule `Ends`

at_first : (text other : List ℕ) (k : ℕ) → k < 1 → slice_index_or (text ∷ []) k other ≡ other → text ≡ other
at_first text other zero within is = is
at_first text other (suc k) within is = absurd (omega arith)

-- what a rule with one text accepts
one_text : (text name : List ℕ) → Fits (Ends (text ∷ [])) name → (front : List ℕ) × (name ≡ front ++ text)
one_text text name (other, front, (k, within, is), joined) = (front, joined ∙ ap (λ (t : List ℕ). front ++ t) (sym (at_first text other k within is)))

pub ends_with_text : Fits (Ends (codes ".pdf" ∷ [])) (codes "a.pdf")
ends_with_text = (codes ".pdf", codes "a", (0, lit< tt, refl), refl)

pub ends_as_text : Fits (Ends (codes ".pdf" ∷ [])) (codes ".pdf")
ends_as_text = (codes ".pdf", [], (0, lit< tt, refl), refl)

pub ends_with_second : Fits (Ends (codes ".pdf" ∷ codes ".txt" ∷ [])) (codes "a.txt")
ends_with_second = (codes ".txt", codes "a", (1, lit< tt, refl), refl)

-- a name that is shorter than the text, by one byte or more
pub ends_short : (text name : List ℕ) → length name < length text → Fits (Ends (text ∷ [])) name → ⊥
ends_short text name short fits =
    let (front, is) = one_text text name fits in
    omega (arith, ap length is, length-append front text)

-- a name whose last bytes, as many as the text has, differ from the text; n bytes come before them
other_end : (text name : List ℕ) (n : ℕ) → length name ≡ n + length text → (drop n name ≡ text → ⊥) → Fits (Ends (text ∷ [])) name → ⊥
other_end text name n size other fits =
    let (front, is) = one_text text name fits in
    let long : length front ≡ n = omega (arith, size, ap length is, length-append front text) in
    other (ap (drop n) is ∙ drop_at front text n long)

-- a name that begins with the text
pub ends_elsewhere : Fits (Ends (codes ".pdf" ∷ [])) (codes ".pdf.exe") → ⊥
ends_elsewhere = other_end (codes ".pdf") (codes ".pdf.exe") 4 refl (λ last.
    let second : ◌≡◌ {A = ℕ} 101 112 = ap (λ (t : List ℕ). get_or t 1 0) last in omega arith)

-- the case of letters matters
pub ends_in_capitals : Fits (Ends (codes ".pdf" ∷ [])) (codes "a.PDF") → ⊥
ends_in_capitals = other_end (codes ".pdf") (codes "a.PDF") 1 refl (λ last.
    let second : ◌≡◌ {A = ℕ} 80 112 = ap (λ (t : List ℕ). get_or t 1 0) last in omega arith)

pub no_text_of_none : (name : List ℕ) → Fits (Ends []) name → ⊥
no_text_of_none name (text, front, (k, within, is), joined) = omega arith

-- ---- the rule `Begins`

pub begins_with_text : Fits (Begins (codes "in-")) (codes "in-a")
begins_with_text = (codes "a", refl)

pub begins_as_text : Fits (Begins (codes "in-")) (codes "in-")
begins_as_text = ([], refl)

pub begins_short : (text name : List ℕ) → length name < length text → Fits (Begins text) name → ⊥
begins_short text name short (rest, is) = omega (arith, ap length is, length-append text rest)

-- a name that ends with the text
pub begins_elsewhere : Fits (Begins (codes "in-")) (codes "a-in-") → ⊥
begins_elsewhere (rest, is) = let first : ◌≡◌ {A = ℕ} 97 105 = ap (λ (t : List ℕ). get_or t 0 0) is in omega arith

pub begins_in_capitals : Fits (Begins (codes "in-")) (codes "In-a") → ⊥
begins_in_capitals (rest, is) = let first : ◌≡◌ {A = ℕ} 73 105 = ap (λ (t : List ℕ). get_or t 0 0) is in omega arith

-- ---- names

one_byte : (b : ℕ) → b < 128 → IsAscii (b ∷ [])
one_byte b small zero = small
one_byte b small (suc i) = lit< tt

pub space_is_a_name : IsName (codes " ")
space_is_a_name = record { some = lit< tt; text = IsUtf8-from_ascii (codes " ") (one_byte 0x20 (lit< tt)); plain = refl }

pub tilde_is_a_name : IsName (codes "~")
tilde_is_a_name = record { some = lit< tt; text = IsUtf8-from_ascii (codes "~") (one_byte 0x7E (lit< tt)); plain = refl }

-- only UTF-8 restricts bytes beyond ASCII: here e with an acute accent, and the greatest character of four bytes
pub accents_are_plain : IsUtf8 (0xC3 ∷ 0xA9 ∷ []) → IsName (0xC3 ∷ 0xA9 ∷ [])
accents_are_plain text = record { some = lit< tt; text = text; plain = refl }

pub greatest_is_plain : IsUtf8 (0xF4 ∷ 0x8F ∷ 0xBF ∷ 0xBF ∷ []) → IsName (0xF4 ∷ 0x8F ∷ 0xBF ∷ 0xBF ∷ [])
greatest_is_plain text = record { some = lit< tt; text = text; plain = refl }

pub nothing_is_no_name : IsName [] → ⊥
nothing_is_no_name is = let some : 0 < length {A = ℕ} [] = is.some in omega arith

pub control_is_no_name : IsName (0x1F ∷ []) → ⊥
control_is_no_name is = let plain = is.plain in absurd cc

pub delete_is_no_name : IsName (0x7F ∷ []) → ⊥
delete_is_no_name is = let plain = is.plain in absurd cc
