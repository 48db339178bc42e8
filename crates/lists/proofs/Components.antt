-- An exported name is a single path component.
use Rattle.std.proofs.Common.{◌≡◌, ◌≢◌, ◌∙◌, ℕ, zero, suc, ◌+◌, ◌-◌, ◌^◌, ◌<◌, ◌≤◌, Bool, true, false, List, [], ◌∷◌, ◌++◌, length, get_or, refl, sym, ap, subst, arith, ⊎_elim, append_assoc, length-append}
use Rattle.std.specs.Prelude.{IsTrue}
use Rattle.std.specs.Fmt.{decimal}
use Rattle.std.specs.Int.{IsInRange}
use Rattle.std.specs.Str.Parse.{AllDigits}
use Rattle.std.proofs.lemmas.Bool.{cases_lt, false≢true}
use Rattle.std.proofs.lemmas.Bool.Decides.{nat_tests}
use Rattle.std.proofs.lemmas.Fmt.{decimal_injective, decimal_is_IsNumeral, length-decimal-le}
use Rattle.std.proofs.lemmas.List.{get_or_append_left, get_or-append_right, length-take}
use Rattle.std.proofs.lemmas.Str.Parse.{digit_from_value}
use Rattle.lists.specs.Names.{AreCharacters, AreCleaned, IsComponent, IsExportName, IsFolderName, IsFront, IsPart, MayStand, is_plain}

-- ---- texts of plain bytes

abbrev ArePlain : List ℕ → Type 0
ArePlain text = (i : ℕ) → i < length text → IsTrue (is_plain (get_or text i 0))

plain_joined : (xs ys : List ℕ) → ArePlain xs → ArePlain ys → ArePlain (xs ++ ys)
plain_joined xs ys first second i h = ⊎_elim
    (λ (low : i < length xs). ap is_plain (get_or_append_left xs ys 0 i low) ∙ first i low)
    (λ (high : length xs ≤ i).
    ap is_plain (get_or-append_right xs ys (length xs) i 0 refl high) ∙ second (i - length xs) (omega (arith, length-append xs ys)))
    (cases_lt i (length xs))

one_plain : (b : ℕ) → IsTrue (is_plain b) → ArePlain (b ∷ [])
one_plain b is i h = let first : 0 ≡ i = omega arith in subst (λ k. IsTrue (is_plain (get_or (b ∷ []) k 0))) first is

plain_digit : (c : ℕ) → IsInRange 48 57 c → IsTrue (is_plain c)
plain_digit c h = grind (arith, nat_tests)

digit_at : (text : List ℕ) → AllDigits 10 text → (i : ℕ) → i < length text → IsInRange 48 57 (get_or text i 0)
digit_at [] all i h = absurd (omega arith)
digit_at (c ∷ text) all zero h = digit_from_value c all.0
digit_at (c ∷ text) all (suc i) h = digit_at text all.1 i (omega arith)

plain_decimal : (n : ℕ) → n < 2 ^ 64 → ArePlain (decimal n)
plain_decimal n small i h = plain_digit _ (digit_at (decimal n) (decimal_is_IsNumeral n small).0.1 i h)

-- ---- the part of a name

untrue : (b : Bool) → (b ≡ false → ⊥) → b ≡ true
untrue true never = refl
untrue false never = absurd (never refl)

-- the properties of the part of a name
record IsFine (part : List ℕ) : Type 0 where
  some : 0 < length part
  short : length part ≤ 200
  plain : ArePlain part
  no_dot : get_or part (length part - 1) 0 ≢ 46
  no_space : get_or part (length part - 1) 0 ≢ 32

module _ (front part : List ℕ) (are : AreCleaned front part) (whole : length part ≡ length front) where
  cleaned_plain : ArePlain part
  cleaned_plain i h = untrue _ (λ no.
      let out : MayStand front i → ⊥ = λ may. false≢true (sym no ∙ ap is_plain (are.kept i h may) ∙ may.plain) in
      false≢true (sym no ∙ ap is_plain (are.other i h out)))

  cleaned_no_dot : 0 < length part → get_or part (length part - 1) 0 ≢ 46
  cleaned_no_dot some e =
      let inside : length part - 1 < length part = omega arith in
      let out : MayStand front (length part - 1) → ⊥ = λ may. may.no_dot (omega arith) (sym (are.kept _ inside may) ∙ e) in
      let stand_in = are.other _ inside out in
      omega (arith, stand_in, e)

  cleaned_no_space : 0 < length part → get_or part (length part - 1) 0 ≢ 32
  cleaned_no_space some e =
      let inside : length part - 1 < length part = omega arith in
      let out : MayStand front (length part - 1) → ⊥ = λ may. may.no_space (omega arith) (sym (are.kept _ inside may) ∙ e) in
      let stand_in = are.other _ inside out in
      omega (arith, stand_in, e)

stand_in_fine : IsFine (95 ∷ [])
stand_in_fine = record {
  some = omega arith;
  short = omega arith;
  plain = one_plain 95 refl;
  no_dot = λ e. omega (arith, e);
  no_space = λ e. omega (arith, e);
}

fine_part : (front part : List ℕ) → length front ≤ 200 → IsPart front part → IsFine part
fine_part front part short is = ⊎_elim
    (λ (some : 0 < length front).
    let (are, whole) = is.some some in record {
      some = omega (arith, whole);
      short = omega (arith, whole);
      plain = cleaned_plain front part are whole;
      no_dot = cleaned_no_dot front part are whole (omega (arith, whole));
      no_space = cleaned_no_space front part are whole (omega (arith, whole));
    })
    (λ (none : length front ≤ 0). subst IsFine (sym (is.none (omega arith))) stand_in_fine)
    (cases_lt 0 (length front))

few_characters : (part front : List ℕ) → AreCharacters 200 part front → length front ≤ 200
few_characters part front are = omega (arith, ap length are.is, length-take are.size part, are.short)

short_front : (part front : List ℕ) → IsFront part front → length front ≤ 200
short_front part front is = ⊎_elim
    (λ (long : 200 < length front).
    let other = is.other (λ text. absurd (omega (arith, few_characters part front (is.text text), long))) in
    absurd (omega (arith, ap length other, long)))
    (λ (short : length front ≤ 200). short)
    (cases_lt 200 (length front))

-- ---- the whole name

module _ (number : ℕ) (part : List ℕ) (small : number < 2 ^ 64) (fine : IsFine part) where
  head : List ℕ
  head = decimal number ++ 45 ∷ []

  long_head : length head ≡ length (decimal number) + 1
  unfolding head
  long_head = length-append (decimal number) (45 ∷ [])

  plain_head : ArePlain head
  unfolding head
  plain_head = plain_joined (decimal number) (45 ∷ []) (plain_decimal number small) (one_plain 45 refl)

  long_name : length (head ++ part) ≡ length (decimal number) + 1 + length part
  long_name = length-append head part ∙ ap (λ n. n + length part) long_head

  some_digits : 0 < length (decimal number)
  some_digits = (decimal_is_IsNumeral number small).0.0

  last_byte : get_or (head ++ part) (length (head ++ part) - 1) 0 ≡ get_or part (length part - 1) 0
  last_byte =
      let at = get_or-append_right head part (length head) (length (head ++ part) - 1) 0 refl (omega (arith, long_name, long_head, fine.some)) in
      let same : length (head ++ part) - 1 - length head ≡ length part - 1 = omega (arith, long_name, long_head, fine.some) in
      at ∙ ap (λ i. get_or part i 0) same

  joined_component : IsComponent (head ++ part)
  joined_component = record {
    some = omega (arith, long_name);
    short = omega (arith, long_name, fine.short, length-decimal-le 20 number (omega arith) (omega arith) small);
    plain = plain_joined head part plain_head fine.plain;
    not_here = λ e. omega (arith, ap length e, long_name, some_digits, fine.some);
    not_above = λ e. omega (arith, ap length e, long_name, some_digits, fine.some);
    no_dot = λ e. fine.no_dot (sym last_byte ∙ e);
    no_space = λ e. fine.no_space (sym last_byte ∙ e);
  }

  same_joined : head ++ part ≡ decimal number ++ 45 ∷ part
  unfolding head
  same_joined = append_assoc (decimal number) (45 ∷ []) part

pub component : (number : ℕ) (name text : List ℕ) → number < 2 ^ 64 → IsExportName number name text → IsComponent text
component number name text small is =
    let fine = fine_part is.front is.part (short_front is.last is.front is.is_front) is.is_part in
    subst IsComponent (same_joined number is.part small fine ∙ sym is.is) (joined_component number is.part small fine)

-- ---- the folder of a box

fine_component : (part : List ℕ) → IsFine part → IsComponent part
fine_component part fine = record {
  some = fine.some;
  short = omega (arith, fine.short);
  plain = fine.plain;
  not_here = λ e. fine.no_dot (ap (λ (t : List ℕ). get_or t (length t - 1) 0) e);
  not_above = λ e. fine.no_dot (ap (λ (t : List ℕ). get_or t (length t - 1) 0) e);
  no_dot = fine.no_dot;
  no_space = fine.no_space;
}

pub folder_component : (box text : List ℕ) → IsFolderName box text → IsComponent text
folder_component box text is = fine_component text (fine_part is.front text (short_front is.called is.front is.is_front) is.is_part)

-- ---- one number to a name

no_dash : (c : ℕ) → IsInRange 48 57 c → 45 ≢ c
no_dash c h e = omega arith

same_digits : (xs ys p q : List ℕ) → AllDigits 10 xs → AllDigits 10 ys → xs ++ 45 ∷ p ≡ ys ++ 45 ∷ q → xs ≡ ys
same_digits [] [] p q a b e = refl
same_digits [] (y ∷ ys) p q a b e = absurd (no_dash y (digit_from_value y b.0) cc)
same_digits (x ∷ xs) [] p q a b e = absurd (no_dash x (digit_from_value x a.0) cc)
same_digits (x ∷ xs) (y ∷ ys) p q a b e =
    let rest : xs ++ 45 ∷ p ≡ ys ++ 45 ∷ q = cc in
    let tails = same_digits xs ys p q a.1 b.1 rest in
    let heads : x ≡ y = cc in
    λ i. heads i ∷ tails i

pub number_once : (m n : ℕ) (a b text : List ℕ) → m < 2 ^ 64 → n < 2 ^ 64 → IsExportName m a text → IsExportName n b text → m ≡ n
number_once m n a b text first second is also =
    decimal_injective m n first second (same_digits (decimal m) (decimal n) is.part also.part
    (decimal_is_IsNumeral m first).0.1 (decimal_is_IsNumeral n second).0.1 (sym is.is ∙ also.is))
