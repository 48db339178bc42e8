-- The day of a written moment: the first eight bytes of its text are digits.
use Rattle.std.proofs.Common.{◌≡◌, ℕ, ◌+◌, ◌/◌, ◌%◌, true, List, [], ◌∷◌, ◌++◌, length, take, drop, refl, sym, subst, arith}
use Rattle.std.specs.Prelude.{IsTrue, nat_eq}
use Rattle.std.specs.List.{list_all}
use Rattle.std.specs.Char.{is_ascii_digit}
use Rattle.std.proofs.lemmas.Bool.{and_from}
use Rattle.std.proofs.lemmas.Bool.Decides.{nat_tests}
use Rattle.std.proofs.lemmas.List.{take-append-drop}
use Rattle.sigtext.specs.Bytes.{begins_with}
use Rattle.sigv4.specs.Dates.{CivilTime, civil_time_text, WritesMoment}

digit : (n : ℕ) → is_ascii_digit (48 + n % 10) ≡ true
digit n = grind (arith, nat_tests)

-- eight digits
eight : (a b c d e f g h : ℕ) → IsTrue (list_all is_ascii_digit ((48 + a % 10) ∷ (48 + b % 10) ∷ (48 + c % 10) ∷ (48 + d % 10) ∷ (48 + e % 10) ∷ (48 + f % 10) ∷ (48 + g % 10) ∷ (48 + h % 10) ∷ []))
eight a b c d e f g h =
    and_from _ _ (digit a) (and_from _ _ (digit b) (and_from _ _ (digit c) (and_from _ _ (digit d)
    (and_from _ _ (digit e) (and_from _ _ (digit f) (and_from _ _ (digit g) (and_from _ _ (digit h) refl)))))))

same_byte : (b : ℕ) → nat_eq b b ≡ true
same_byte b = grind (arith, nat_tests)

begins_with_itself : (front rest : List ℕ) → IsTrue (begins_with (front ++ rest) front)
begins_with_itself [] rest = refl
begins_with_itself (b ∷ front) rest = and_from _ _ (same_byte b) (begins_with_itself front rest)

day_of_time : (s : CivilTime) → (length (take 8 (civil_time_text s)) ≡ 8) × IsTrue (list_all is_ascii_digit (take 8 (civil_time_text s)))
day_of_time s = (refl, eight (s.year / 100 / 10) (s.year / 100) (s.year % 100 / 10) (s.year % 100) (s.month / 10) s.month (s.day / 10) s.day)

begins_with_front : (n : ℕ) (text : List ℕ) → IsTrue (begins_with text (take n text))
begins_with_front n text = subst (λ (whole : List ℕ). IsTrue (begins_with whole (take n text))) (take-append-drop n text) (begins_with_itself (take n text) (drop n text))

-- the first eight bytes are eight digits, and the text begins with them
pub day_of : (text : List ℕ) (moment : ℕ) → WritesMoment text moment → (length (take 8 text) ≡ 8) × IsTrue (list_all is_ascii_digit (take 8 text)) × IsTrue (begins_with text (take 8 text))
day_of text moment w =
    let day = day_of_time w.time in (
      subst (λ (t : List ℕ). length (take 8 t) ≡ 8) (sym w.written) day.0,
      subst (λ (t : List ℕ). IsTrue (list_all is_ascii_digit (take 8 t))) (sym w.written) day.1,
      begins_with_front 8 text,
    )
