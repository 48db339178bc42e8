-- The decimal text of an expiry has the form of an expiry.
use Rattle.std.proofs.Common.{◌≡◌, ◌≢◌, ℕ, ◌^◌, ◌<◌, ◌≤◌, true, List, [], ◌∷◌, get_or, refl, sym, ap, arith}
use Rattle.std.specs.Prelude.{IsTrue}
use Rattle.std.specs.List.{list_all}
use Rattle.std.specs.Char.{is_ascii_digit}
use Rattle.std.specs.Fmt.{decimal}
use Rattle.std.specs.Int.{IsInRange}
use Rattle.std.specs.Str.Parse.{AllDigits}
use Rattle.std.proofs.lemmas.Bool.{and_from}
use Rattle.std.proofs.lemmas.Bool.Decides.{nat_tests}
use Rattle.std.proofs.lemmas.Fmt.{decimal_is_IsNumeral, length-decimal-le, first_decimal}
use Rattle.std.proofs.lemmas.Str.Parse.{digit_from_value}
use Rattle.links.specs.Forms.{IsExpiry}

in_range : (c : ℕ) → IsInRange 48 57 c → is_ascii_digit c ≡ true
in_range c h = grind (arith, nat_tests)

are_digits : (text : List ℕ) → AllDigits 10 text → IsTrue (list_all is_ascii_digit text)
are_digits [] h = refl
are_digits (c ∷ text) h = and_from _ _ (in_range c (digit_from_value c h.0)) (are_digits text h.1)

no_zero : (text rest : List ℕ) → 48 < get_or text 0 0 → text ≢ 48 ∷ rest
no_zero text rest h e = let is = ap (λ (t : List ℕ). get_or t 0 0) e in omega (arith, h, is)

fits : (n : ℕ) → n ≤ 604800 → n < 2 ^ 64
fits n h = omega arith

short : (n : ℕ) → n ≤ 604800 → n < 10 ^ 6
short n h = omega arith

-- 1 to 604800, written in decimal
pub written_expiry : (n : ℕ) → 1 ≤ n → n ≤ 604800 → IsExpiry (decimal n) n
written_expiry n least most =
    let small = fits n most in
    let numeral = decimal_is_IsNumeral n small in
    record {
      digits = record {
        some = numeral.0.0;
        short = length-decimal-le 6 n (omega arith) (short n most) small;
        each = are_digits (decimal n) numeral.0.1;
      };
      first = λ rest. no_zero (decimal n) rest (first_decimal n least small);
      value = sym numeral.1;
      least = least;
      most = most;
    }
