-- Texts that are cut at a byte, and texts that lack it.
use Rattle.std.proofs.Common.{◌≡◌, ℕ, zero, suc, ◌+◌, ◌/◌, ◌%◌, ◌<◌, Bool, true, false, List, [], ◌∷◌, ◌++◌, length, get_or, refl, sym, ap, subst, ◌∙◌, Some, Option, arith}
use Rattle.std.specs.Borrow.{Bor}
use Rattle.std.specs.Prelude.{MatchOption, take, drop}
use Rattle.std.specs.List.{AllByRecursion}
use Rattle.std.specs.Cmp.Lexicographic.{pointwise}
use Rattle.std.specs.Prelude.{nat_eq, codes}
use Rattle.std.specs.Char.{is_ascii_lowercase}
use Rattle.std.proofs.lemmas.Bool.Decides.{Decides-eqb}
use Rattle.std.proofs.lemmas.List.Elements.{All-from_recursion}
use Rattle.std.proofs.lemmas.List.Sums.{AllPass-from_list_all}
use Rattle.std.proofs.lemmas.Option.{some_pair_parts, MatchOption-at_some}
use Rattle.std.proofs.lemmas.Slice.Eq.{strip_prefix_is}
use Rattle.sigtext.specs.Bytes.{IsWord}
use Rattle.sigtext.specs.Targets.{Lacks}
use Rattle.sigtext.proofs.Reading.{cut}
use Rattle.sigtext.proofs.Cuts.{cut_at, cut_absent}
use Rattle.sigtext.proofs.Pieces.{tested}
use Rattle.sigv4.specs.Dates.{CivilTime, civil_time_text, WritesMoment}
use Rattle.boxes.specs.declared.rows.Role.{Role}
use Rattle.boxes.specs.declared.rows.Role.TheVariants as role
use Rattle.boxes.specs.declared.rows.Mode.{Mode}
use Rattle.boxes.specs.declared.rows.Mode.TheVariants as mode
use Rattle.links.specs.CommandTexts.{role_word, mode_word, day_digit, days_word, minute_word}

-- ---- cuts

-- a text that lacks the byte is not cut at it
pub not_cut : (c : ℕ) (text word rest : List ℕ) → Lacks c text → Lacks c word → text ≡ word ++ c ∷ rest → ⊥
not_cut c text word rest lacks first is =
    let none = cut_absent c text (tested c text lacks) in
    let some = ap (cut c) is ∙ cut_at c word rest (tested c word first) in
    cc

-- a text is cut in one way only
pub cut_once : (c : ℕ) (text a b word rest : List ℕ) → (text ≡ a ++ c ∷ b) × Lacks c a → Lacks c word → text ≡ word ++ c ∷ rest → (a ≡ word) × (b ≡ rest)
cut_once c text a b word rest parts first is =
    let one = ap (cut c) parts.0 ∙ cut_at c a b (tested c a parts.1) in
    let other = ap (cut c) is ∙ cut_at c word rest (tested c word first) in
    some_pair_parts a word b rest (sym one ∙ other)

-- what follows a prefix that was stripped
pub behind_front : (text front : List ℕ) (r : Option (Bor (List ℕ))) (rest : Bor (List ℕ)) → r ≡ Some rest
    → MatchOption r (pointwise nat_eq (take (length front) text) front ≡ false) (λ x. (pointwise nat_eq (take (length front) text) front ≡ true) × (x.now ≡ drop (length front) text) × (length x.now + length front ≡ length text))
    → text ≡ front ++ rest.now
behind_front text front r rest is stripped = MatchOption-at_some _ _ rest is (strip_prefix_is Decides-eqb text front r stripped)

-- ---- texts that lack a byte

-- a word lacks each byte that its test forbids
pub word_lacks : (test : ℕ → Bool) (n : ℕ) (text : List ℕ) (c : ℕ) → test c ≡ false → IsWord test n text → Lacks c text
word_lacks test n text c barred word k d within here =
    let passes : test (get_or text k d) ≡ true = AllPass-from_list_all test text word.each k d within in
    cc

-- a text that is the word of neither role
pub no_role : (text : List ℕ) → (text ≡ codes "clerk" → ⊥) → (text ≡ codes "link" → ⊥) → (r : Role) → text ≡ role_word r → ⊥
no_role text clerk link role.Clerk is = clerk is
no_role text clerk link role.Link is = link is

pub role_lacks_space : (r : Role) → Lacks 32 (role_word r)
role_lacks_space role.Clerk = word_lacks is_ascii_lowercase 5 (codes "clerk") 32 refl (record { some = omega arith; short = omega arith; each = refl })
role_lacks_space role.Link = word_lacks is_ascii_lowercase 4 (codes "link") 32 refl (record { some = omega arith; short = omega arith; each = refl })

-- a text that is the word of neither mode
pub no_mode : (text : List ℕ) → (text ≡ codes "keep" → ⊥) → (text ≡ codes "replace" → ⊥) → (m : Mode) → text ≡ mode_word m → ⊥
no_mode text keep replace mode.Keep is = keep is
no_mode text keep replace mode.Replace is = replace is

pub mode_lacks_space : (m : Mode) → Lacks 32 (mode_word m)
mode_lacks_space mode.Keep = word_lacks is_ascii_lowercase 4 (codes "keep") 32 refl (record { some = omega arith; short = omega arith; each = refl })
mode_lacks_space mode.Replace = word_lacks is_ascii_lowercase 7 (codes "replace") 32 refl (record { some = omega arith; short = omega arith; each = refl })

pub minute_lacks_space : (minute : ℕ) → Lacks 32 (minute_word minute)
minute_lacks_space minute = All-from_recursion (λ b. b ≡ 32 → ⊥) (minute_word minute) ((λ e. omega arith), ((λ e. omega arith), ((λ e. omega arith), ((λ e. omega arith), tt))))

digits_lack : (days : List Bool) → AllByRecursion (λ b. b ≡ 32 → ⊥) (days_word days)
digits_lack [] = tt
digits_lack (true ∷ days) = ((λ e. omega arith), digits_lack days)
digits_lack (false ∷ days) = ((λ e. omega arith), digits_lack days)

pub days_lack_space : (days : List Bool) → Lacks 32 (days_word days)
days_lack_space days = All-from_recursion (λ b. b ≡ 32 → ⊥) (days_word days) (digits_lack days)

time_lacks : (time : CivilTime) → AllByRecursion (λ b. b ≡ 32 → ⊥) (civil_time_text time)
time_lacks time = ((λ e. omega arith), ((λ e. omega arith), ((λ e. omega arith), ((λ e. omega arith), ((λ e. omega arith), ((λ e. omega arith), ((λ e. omega arith), ((λ e. omega arith), ((λ e. omega arith), ((λ e. omega arith), ((λ e. omega arith), ((λ e. omega arith), ((λ e. omega arith), ((λ e. omega arith), ((λ e. omega arith), ((λ e. omega arith), tt))))))))))))))))

pub moment_lacks_space : (text : List ℕ) (moment : ℕ) → WritesMoment text moment → Lacks 32 text
moment_lacks_space text moment w = subst (Lacks 32) (sym w.written) (All-from_recursion (λ b. b ≡ 32 → ⊥) (civil_time_text w.time) (time_lacks w.time))

-- ---- words and what they stand for

-- equal texts have equal bytes
pub differ : (i : ℕ) (a b : List ℕ) (x y : ℕ) → a ≡ b → get_or a i 0 ≡ x → get_or b i 0 ≡ y → (x ≡ y → ⊥) → ⊥
differ i a b x y same left right other = other (sym left ∙ ap (λ (t : List ℕ). get_or t i 0) same ∙ right)

pub role_once : (r s : Role) → role_word r ≡ role_word s → r ≡ s
role_once role.Clerk role.Clerk e = refl
role_once role.Clerk role.Link e = absurd cc
role_once role.Link role.Clerk e = absurd cc
role_once role.Link role.Link e = refl

pub mode_once : (m n : Mode) → mode_word m ≡ mode_word n → m ≡ n
mode_once mode.Keep mode.Keep e = refl
mode_once mode.Keep mode.Replace e = absurd cc
mode_once mode.Replace mode.Keep e = absurd cc
mode_once mode.Replace mode.Replace e = refl

pub digit_once : (a b : Bool) → day_digit a ≡ day_digit b → a ≡ b
digit_once true true e = refl
digit_once true false e = absurd (omega arith)
digit_once false true e = absurd (omega arith)
digit_once false false e = refl

pub days_once : (a b : List Bool) → days_word a ≡ days_word b → a ≡ b
days_once [] [] e = refl
days_once [] (y ∷ ys) e = absurd cc
days_once (x ∷ xs) [] e = absurd cc
days_once (x ∷ xs) (y ∷ ys) e =
    let head : day_digit x ≡ day_digit y = cc in
    let tail : days_word xs ≡ days_word ys = cc in
    let first = digit_once x y head in
    let rest = days_once xs ys tail in
    cc

-- the digit at an index is the day's
pub no_day : (word : List ℕ) (days : List Bool) (i : ℕ) → word ≡ days_word days → i < length days → ((day : Bool) → get_or word i 0 ≡ day_digit day → ⊥) → ⊥
no_day word [] i is within none = omega arith
no_day word (day ∷ days) zero is within none = none day (ap (λ (t : List ℕ). get_or t 0 0) is)
no_day word (day ∷ days) (suc i) is within none = no_day (days_word days) days i refl (omega arith) (λ d e. none d (ap (λ (t : List ℕ). get_or t (suc i) 0) is ∙ e))

pub minute_once : (m n : ℕ) → m < 6000 → n < 6000 → minute_word m ≡ minute_word n → m ≡ n
minute_once m n small small₂ e =
    let at : (i : ℕ) → get_or (minute_word m) i 0 ≡ get_or (minute_word n) i 0 = λ i. ap (λ (t : List ℕ). get_or t i 0) e in
    four_once m n small small₂ (at 0) (at 1) (at 2) (at 3)
  where
    four_once : (m n : ℕ) → m < 6000 → n < 6000 → 48 + m / 60 / 10 % 10 ≡ 48 + n / 60 / 10 % 10 → 48 + m / 60 % 10 ≡ 48 + n / 60 % 10
        → 48 + m % 60 / 10 % 10 ≡ 48 + n % 60 / 10 % 10 → 48 + m % 60 % 10 ≡ 48 + n % 60 % 10 → m ≡ n
    four_once m n small small₂ a b c d = omega arith
