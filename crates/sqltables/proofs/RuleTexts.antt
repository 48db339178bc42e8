-- The texts in a box's row: texts joined by commas, and the digits of the days.
use Rattle.std.proofs.Common.{◌≡◌, ◌<◌, ℕ, zero, suc, List, [], ◌∷◌, ◌++◌, length, Bool, true, false, IsUtf8, if◌then◌else◌, slice_index_or, sym, ap, ◌∙◌, arith}
use Rattle.std.specs.List.{slice_index}
use Rattle.std.proofs.lemmas.List.{append-nil, same_lists, get_or-map, length-map}
use Rattle.std.proofs.lemmas.Str.{IsUtf8-from_ascii}
use Rattle.sqltables.specs.Tables.{joined, days_text}

-- the texts, each preceded by a comma
abbrev pub behind : List (List ℕ) → List ℕ
behind [] = []
behind (t ∷ ts) = 0x2C ∷ (t ++ behind ts)

-- the first text, then each other text preceded by a comma
pub joined_first : (t : List ℕ) (ts : List (List ℕ)) → t ++ behind ts ≡ joined (t ∷ ts)
joined_first t [] = append-nil t
joined_first t (u ∷ us) = ap (λ r. t ++ 0x2C ∷ r) (joined_first u us)

low_digits : (days : List Bool) (i : ℕ) → slice_index (days_text days) i < 128
low_digits [] i = omega arith
low_digits (true ∷ days) zero = omega arith
low_digits (false ∷ days) zero = omega arith
low_digits (day ∷ days) (suc i) = low_digits days i

-- the digits of the days are valid UTF-8
pub days_are_text : (days : List Bool) → IsUtf8 (days_text days)
days_are_text days = IsUtf8-from_ascii (days_text days) (low_digits days)

-- the digit of a day
abbrev pub digit : Bool → ℕ
digit day = if day then 0x31 else 0x30

-- seven digits, each of which is the digit of its day
pub are_digits : (days : List Bool) (digits : List ℕ) → length digits ≡ 7 → length days ≡ 7
    → ((i : ℕ) (d : Bool) (e : ℕ) → i < 7 → slice_index_or digits i e ≡ digit (slice_index_or days i d)) → digits ≡ days_text days
are_digits days digits long week each = same_lists digits (days_text days) (long ∙ sym week ∙ sym (length-map days digit)) (λ k e low.
    each k true e (omega (arith, low, long)) ∙ sym (get_or-map digit days k true e (omega (arith, low, long, week))))
