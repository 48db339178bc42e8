-- The values read from the rows that queries show.
use Rattle.std.proofs.Common.{◌≡◌, inl, inr, ℕ, ◌+◌, ◌<◌, ◌≤◌, List, [], ◌∷◌, ◌++◌, map, take, length, get_or, eqb, Bool, true, false, IsTrue, All, pos, arith, refl, sym, ap, ◌∙◌}
use Rattle.std.specs.List.{list_all, slice_split, AllByRecursion, join_with_byte}
use Rattle.std.proofs.lemmas.Bool.{cases_Bool, and_parts, eqb-true}
use Rattle.std.proofs.lemmas.List.{take_more, map-append}
use Rattle.std.proofs.lemmas.List.Elements.{All-from_recursion}
use Rattle.sigtext.proofs.Cuts.{split_joined}
use Rattle.sqlite_value.specs.declared.value.Value.TheVariants.{Int, Text}
use Rattle.boxes.specs.State.{NameRule, AnyName, Ends, Begins}
use Rattle.boxes.specs.Sound.{is_rule_byte, IsRuleText, IsNameRule}
use Rattle.sqltables.specs.Tables.{joined, rule_number, rule_text, days_text}

-- ---- seven days

pub open_days : (days : List Bool) → map (λ mark. eqb mark 49) (days_text days) ≡ days
open_days [] = refl
open_days (true ∷ days) = ap (◌∷◌ true) (open_days days)
open_days (false ∷ days) = ap (◌∷◌ false) (open_days days)

seven : (xs : List ℕ) → length xs ≡ 7
    → eqb (get_or xs 0 0) 49 ∷ eqb (get_or xs 1 0) 49 ∷ eqb (get_or xs 2 0) 49 ∷ eqb (get_or xs 3 0) 49 ∷ eqb (get_or xs 4 0) 49 ∷ eqb (get_or xs 5 0) 49 ∷ eqb (get_or xs 6 0) 49 ∷ [] ≡ map (λ mark. eqb mark 49) xs
seven [] h = absurd (omega (arith, h))
seven (a ∷ []) h = absurd (omega (arith, h))
seven (a ∷ b ∷ []) h = absurd (omega (arith, h))
seven (a ∷ b ∷ c ∷ []) h = absurd (omega (arith, h))
seven (a ∷ b ∷ c ∷ d ∷ []) h = absurd (omega (arith, h))
seven (a ∷ b ∷ c ∷ d ∷ e ∷ []) h = absurd (omega (arith, h))
seven (a ∷ b ∷ c ∷ d ∷ e ∷ f ∷ []) h = absurd (omega (arith, h))
seven (a ∷ b ∷ c ∷ d ∷ e ∷ f ∷ g ∷ []) h = refl
seven (a ∷ b ∷ c ∷ d ∷ e ∷ f ∷ g ∷ x ∷ xs) h = absurd (omega (arith, h))

pub days_are : (marks : List ℕ) (days : List Bool) → length marks ≡ 7 → marks ≡ days_text days
    → eqb (get_or marks 0 0) 49 ∷ eqb (get_or marks 1 0) 49 ∷ eqb (get_or marks 2 0) 49 ∷ eqb (get_or marks 3 0) 49 ∷ eqb (get_or marks 4 0) 49 ∷ eqb (get_or marks 5 0) 49 ∷ eqb (get_or marks 6 0) 49 ∷ [] ≡ days
days_are marks days long is = seven marks long ∙ ap (map (λ mark. eqb mark 49)) is ∙ open_days days

-- ---- texts separated by commas

module _ {X : Type 0} (bytes : X → List ℕ) where
  pub one_more : (pieces : List (List ℕ)) (n next : ℕ) (piece : List ℕ) (texts others : List X) (text : X) → (n < length pieces) × (piece ≡ get_or pieces n piece) → map bytes texts ≡ take n pieces
      → next ≡ n + 1 → others ≡ texts ++ text ∷ [] → bytes text ≡ piece → map bytes others ≡ take next pieces
  one_more pieces n next piece texts others text turn sofar one more is =
      ap (map bytes) more ∙ map-append bytes texts (text ∷ []) ∙ ap (λ l. l ++ bytes text ∷ []) sofar ∙ ap (λ x. take n pieces ++ x ∷ []) (is ∙ turn.1)
      ∙ sym (take_more pieces n piece turn.0) ∙ ap (λ k. take k pieces) (sym one)

pub joined_is : (texts : List (List ℕ)) → joined texts ≡ join_with_byte 44 texts
joined_is [] = refl
joined_is (t ∷ []) = refl
joined_is (t ∷ u ∷ texts) = ap (λ rest. t ++ 44 ∷ rest) (joined_is (u ∷ texts))

no_comma : (b : ℕ) → IsTrue (is_rule_byte b) → eqb b 44 ≡ false
no_comma b h = elim (cases_Bool (eqb b 44)) [
  | inl hit ↦ absurd (let e = rw (eqb-true b 44 hit) at h in cc)
  | inr miss ↦ miss
]

no_commas : (text : List ℕ) → IsTrue (list_all is_rule_byte text) → AllByRecursion (λ x. eqb x 44 ≡ false) text
no_commas [] h = tt
no_commas (b ∷ text) h = let parts = and_parts _ _ h in (no_comma b parts.0, no_commas text parts.1)

none_has : (texts : List (List ℕ)) → AllByRecursion (IsRuleText 32) texts → AllByRecursion (All (λ x. eqb x 44 ≡ false)) texts
none_has [] all = tt
none_has (t ∷ texts) all = (All-from_recursion (λ x. eqb x 44 ≡ false) t (no_commas t all.0.word.each), none_has texts all.1)

pub cut_joined : (texts : List (List ℕ)) → 1 ≤ length texts → AllByRecursion (IsRuleText 32) texts → slice_split (λ b. eqb b 44) (joined texts) ≡ texts
cut_joined texts some all = ap (slice_split (λ b. eqb b 44)) (joined_is texts) ∙ split_joined 44 texts some (none_has texts all)

-- ---- a name rule

pub ends_are : (rule : NameRule) (texts : List (List ℕ)) (text : List ℕ) → IsNameRule rule → Int (pos 1) ≡ Int (rule_number rule) → Text text ≡ Text (rule_text rule) → texts ≡ slice_split (λ b. eqb b 44) text → Ends texts ≡ rule
ends_are AnyName texts text good number is cut = absurd (let e = number in cc)
ends_are (Begins start) texts text good number is cut = absurd (let e = number in cc)
ends_are (Ends all) texts text good number is cut =
    let same : text ≡ joined all = cc in ap Ends (cut ∙ ap (slice_split (λ b. eqb b 44)) same ∙ cut_joined all good.0 good.2)
