-- Loops over a list that end at the first element that decides a test.
use Rattle.std.proofs.Common.{◌≡◌, ℕ, ◌+◌, ◌<◌, ◌≤◌, Bool, true, false, List, length, get_or, drop, sym, ap, ◌∙◌}
use Rattle.std.specs.Prelude.{◌&&◌, ◌||◌}
use Rattle.std.specs.List.{list_all, list_any}
use Rattle.std.proofs.lemmas.List.{at_drop_more, at_drop_all}

module _ {X : Type 0} (test : X → Bool) where
  -- the rest at an element
  pub any_at : (xs : List X) (i : ℕ) (d : X) → i < length xs → list_any test (drop i xs) ≡ (test (get_or xs i d) || list_any test (drop (i + 1) xs))
  any_at xs i d within = at_drop_more (list_any test) xs i d within

  pub all_at : (xs : List X) (i : ℕ) (d : X) → i < length xs → list_all test (drop i xs) ≡ (test (get_or xs i d) && list_all test (drop (i + 1) xs))
  all_at xs i d within = at_drop_more (list_all test) xs i d within

  -- an element that does not decide it
  pub any_later : {whole : Bool} (xs : List X) (i : ℕ) (d : X) → i < length xs → test (get_or xs i d) ≡ false → list_any test (drop i xs) ≡ whole → list_any test (drop (i + 1) xs) ≡ whole
  any_later xs i d within fails same = sym (ap (λ (b : Bool). b || list_any test (drop (i + 1) xs)) fails) ∙ sym (any_at xs i d within) ∙ same

  pub all_later : {whole : Bool} (xs : List X) (i : ℕ) (d : X) → i < length xs → test (get_or xs i d) ≡ true → list_all test (drop i xs) ≡ whole → list_all test (drop (i + 1) xs) ≡ whole
  all_later xs i d within passes same = sym (ap (λ (b : Bool). b && list_all test (drop (i + 1) xs)) passes) ∙ sym (all_at xs i d within) ∙ same

  -- an element that decides it
  pub any_found : {whole : Bool} (xs : List X) (i : ℕ) (d : X) → i < length xs → test (get_or xs i d) ≡ true → list_any test (drop i xs) ≡ whole → true ≡ whole
  any_found xs i d within passes same = sym (ap (λ (b : Bool). b || list_any test (drop (i + 1) xs)) passes) ∙ sym (any_at xs i d within) ∙ same

  pub all_broken : {whole : Bool} (xs : List X) (i : ℕ) (d : X) → i < length xs → test (get_or xs i d) ≡ false → list_all test (drop i xs) ≡ whole → false ≡ whole
  all_broken xs i d within fails same = sym (ap (λ (b : Bool). b && list_all test (drop (i + 1) xs)) fails) ∙ sym (all_at xs i d within) ∙ same

  -- no element is left
  pub any_none : {whole : Bool} (xs : List X) (i : ℕ) → length xs ≤ i → list_any test (drop i xs) ≡ whole → false ≡ whole
  any_none xs i past same = sym (at_drop_all (list_any test) xs i past) ∙ same

  pub all_passed : {whole : Bool} (xs : List X) (i : ℕ) → length xs ≤ i → list_all test (drop i xs) ≡ whole → true ≡ whole
  all_passed xs i past same = sym (at_drop_all (list_all test) xs i past) ∙ same
