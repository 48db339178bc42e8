-- Texts of decimal digits.
use Rattle.std.proofs.Common.{◌≡◌, ℕ, ◌^◌, ◌<◌, ◌≤◌, Bool, true, false, List, [], ◌∷◌, length, drop, cond, Result, Ok, Err, refl, sym, ap, subst, arith, All, ⊎_elim, lit<}
use Rattle.std.proofs.Math.Nat.{pow-le-pow_right}
use Rattle.std.proofs.lemmas.Int.Digits.{digits_value-lt}
use Rattle.std.proofs.lemmas.Bool.{cases_lt}
use Rattle.std.proofs.Math.ListN.{get_or-eq_default}
use Rattle.std.specs.Prelude.{IsUtf8, IfNone, slice_index, ◌==◌, ◌&&◌}
use Rattle.std.specs.Result.{result_ok}
use Rattle.std.specs.List.{list_all}
use Rattle.std.specs.Char.{is_ascii_digit, digit_value}
use Rattle.std.specs.Str.Parse.{AllDigits, IsNumeral, ParsesUnsigned, digits_value, without_leading_plus}
use Rattle.sigtext.specs.Bytes.{IsWord}
use Rattle.std.proofs.lemmas.Bool.Decides.{nat_tests}
use Rattle.std.proofs.lemmas.Str.{IsUtf8-from_ascii}
use Rattle.std.proofs.lemmas.List.Elements.{All-nil, All-cons}

pub digit_small : (c : ℕ) → is_ascii_digit c ≡ true → digit_value c < 10
digit_small c e = grind (arith, nat_tests)

digit_ascii : (c : ℕ) → is_ascii_digit c ≡ true → c < 128
digit_ascii c e = grind (arith, nat_tests)

no_plus : (c : ℕ) → is_ascii_digit c ≡ true → (c == 43) ≡ false
no_plus c e = grind (arith, nat_tests)

both : (a b : Bool) → (a && b) ≡ true → (a ≡ true) × (b ≡ true)
both true b e = (refl, e)
both false b e = absurd cc

pub all_digits : (text : List ℕ) → list_all is_ascii_digit text ≡ true → AllDigits 10 text
all_digits [] e = tt
all_digits (c ∷ text) e = let p = both (is_ascii_digit c) (list_all is_ascii_digit text) e in (digit_small c p.0, all_digits text p.1)

all_ascii : (text : List ℕ) → list_all is_ascii_digit text ≡ true → All (λ b. b < 128) text
all_ascii [] e = All-nil (λ b. b < 128)
all_ascii (c ∷ text) e = let p = both (is_ascii_digit c) (list_all is_ascii_digit text) e in All-cons (λ b. b < 128) c text (digit_ascii c p.0) (all_ascii text p.1)

-- past the end each digit is 0
ascii_at : (text : List ℕ) → All (λ b. b < 128) text → (i : ℕ) → slice_index text i < 128
ascii_at text small i =
    ⊎_elim (λ (within : i < length text). small i 0 within) (λ (past : length text ≤ i). subst (λ (n : ℕ). n < 128) (sym (get_or-eq_default text 0 past)) (lit< tt)) (cases_lt i (length text))

pub digits_utf8 : (text : List ℕ) → list_all is_ascii_digit text ≡ true → IsUtf8 text
digits_utf8 text e = IsUtf8-from_ascii text (ascii_at text (all_ascii text e))

pub plus_stays : (text : List ℕ) → list_all is_ascii_digit text ≡ true → without_leading_plus text ≡ text
plus_stays [] e = refl
plus_stays (c ∷ text) e = let p = both (is_ascii_digit c) (list_all is_ascii_digit text) e in ap (λ (b : Bool). drop (cond b 1 0) (c ∷ text)) (no_plus c p.0)

pub numeral : (text : List ℕ) → list_all is_ascii_digit text ≡ true → 0 < length text → IsNumeral 10 (without_leading_plus text)
numeral text e some = subst (IsNumeral 10) (sym (plus_stays text e)) (some, all_digits text e)

-- 1 to 19 digits write a number below 2 ^ 64
small : (text : List ℕ) (most : ℕ) → most ≤ 19 → IsWord is_ascii_digit most text → digits_value 10 text < 2 ^ 64
small text most few word =
    let size : 10 ^ length text ≤ 10 ^ most = pow-le-pow_right (lit< tt) word.short in
    let greatest : 10 ^ most ≤ 10 ^ 19 = pow-le-pow_right (lit< tt) few in
    omega (arith, digits_value-lt 10 text (all_digits text word.each), size, greatest)

parses : (text : List ℕ) (most : ℕ) → most ≤ 19 → IsWord is_ascii_digit most text → IsNumeral 10 (without_leading_plus text) × (digits_value 10 (without_leading_plus text) < 2 ^ 64)
parses text most few word =
    (numeral text word.each word.some, subst (λ (t : List ℕ). digits_value 10 t < 2 ^ 64) (sym (plus_stays text word.each)) (small text most few word))

-- so a text that is refused as a number is not 1 to 19 digits
pub unread : {E : Type 0} (text digits : List ℕ) (most : ℕ) (number : Result ℕ E) → digits ≡ text → most ≤ 19 → ParsesUnsigned 64 10 digits number
    → IfNone (result_ok number) (IsWord is_ascii_digit most text → ⊥)
unread text digits most (Ok n) is few parsed = tt
unread text digits most (Err e) is few parsed = λ word. parsed (subst (λ (t : List ℕ). IsNumeral 10 (without_leading_plus t) × (digits_value 10 (without_leading_plus t) < 2 ^ 64)) (sym is) (parses text most few word))
