-- Joined texts, and the text of the days.
use Rattle.std.proofs.Common.{◌≡◌, ◌∙◌, ℕ, ◌+◌, ◌<◌, ◌-◌, Bool, false, List, [], ◌∷◌, ◌++◌, length, get_or, drop, map, Some, Vec, refl, sym, ap, arith}
use Rattle.std.specs.Prelude.{slice_get}
use Rattle.std.specs.List.{join_with_byte}
use Rattle.std.specs.declared.alloc.Global.{Global}
use Rattle.std.proofs.lemmas.List.{at_drop_more}
use Rattle.std.proofs.lemmas.Option.{same_Some}
use Rattle.links.specs.CommandTexts.{day_digit, days_word}
use Rattle.sigtext.proofs.JoinedTexts.{joined_behind, joined_behind-cons, joined_behind-nothing}

last_at : {X : Type 0} (y : X) (xs : List X) (x : X) → Some x ≡ slice_get (y ∷ xs) (length xs) → (front : List X) × (y ∷ xs ≡ front ++ x ∷ [])
last_at y [] x is = ([], ap (λ z. z ∷ []) (sym (same_Some x y is)))
last_at y (z ∷ xs) x is = let (front, are) = last_at z xs x is in (y ∷ front, ap (λ t. y ∷ t) are)

-- a list ends with its last element
pub last_cut : {X : Type 0} (xs : List X) (x : X) → Some x ≡ slice_get xs (length xs - 1) → (front : List X) × (xs ≡ front ++ x ∷ [])
last_cut [] x is = absurd cc
last_cut (y ∷ xs) x is =
    let long : length (y ∷ xs) - 1 ≡ length xs = omega arith in
    last_at y xs x (is ∙ ap (λ (i : ℕ). slice_get (y ∷ xs) i) long)

-- the first text, and then each other text after the byte
pub joined_first : (byte : ℕ) (text : List ℕ) (texts : List (List ℕ)) → join_with_byte byte (text ∷ texts) ≡ text ++ joined_behind (byte ∷ []) byte texts
joined_first byte text texts = joined_behind-nothing byte (text ∷ texts) ∙ joined_behind-cons [] byte text texts

-- the remaining texts at an index
pub joined_at : (byte : ℕ) (texts : List (Vec ℕ Global)) (i : ℕ) (d : Vec ℕ Global) → i < length texts
    → joined_behind (byte ∷ []) byte (map (λ t. t.items) (drop i texts))
    ≡ byte ∷ ((get_or texts i d).items ++ joined_behind (byte ∷ []) byte (map (λ t. t.items) (drop (i + 1) texts)))
joined_at byte texts i d within =
    at_drop_more (λ (rest : List (Vec ℕ Global)). joined_behind (byte ∷ []) byte (map (λ t. t.items) rest)) texts i d within
    ∙ joined_behind-cons (byte ∷ []) byte (get_or texts i d).items (map (λ t. t.items) (drop (i + 1) texts))

-- a list of seven days is made of the days at its places
pub seven_days : (days : List Bool) → length days ≡ 7
    → days_word days ≡ day_digit (get_or days 0 false) ∷ day_digit (get_or days 1 false) ∷ day_digit (get_or days 2 false) ∷ day_digit (get_or days 3 false) ∷ day_digit (get_or days 4 false)
    ∷ day_digit (get_or days 5 false) ∷ day_digit (get_or days 6 false) ∷ []
seven_days [] long = absurd (omega (arith, long))
seven_days (a ∷ []) long = absurd (omega (arith, long))
seven_days (a ∷ b ∷ []) long = absurd (omega (arith, long))
seven_days (a ∷ b ∷ c ∷ []) long = absurd (omega (arith, long))
seven_days (a ∷ b ∷ c ∷ d ∷ []) long = absurd (omega (arith, long))
seven_days (a ∷ b ∷ c ∷ d ∷ e ∷ []) long = absurd (omega (arith, long))
seven_days (a ∷ b ∷ c ∷ d ∷ e ∷ f ∷ []) long = absurd (omega (arith, long))
seven_days (a ∷ b ∷ c ∷ d ∷ e ∷ f ∷ g ∷ []) long = refl
seven_days (a ∷ b ∷ c ∷ d ∷ e ∷ f ∷ g ∷ h ∷ days) long = absurd (omega (arith, long))
