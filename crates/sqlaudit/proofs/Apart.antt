-- Rows whose first columns are sorted numbers, each greater than the one before it.
use Rattle.std.proofs.Common.{◌≡◌, ℤ, Bool, true, false, IsTrue, List, length, map, Less, int_cmp, refl, sym}
use Rattle.std.specs.declared.cmp.Ordering.{Ordering}
use Rattle.std.specs.declared.cmp.Ordering.TheVariants.{Equal, Greater}
use Rattle.std.specs.Ordering.{is_lt}
use Rattle.std.specs.List.{AllAdjacentBelow, IsAllAdjacentAnswer}
use Rattle.std.specs.List.Sorted.{IsPermutation}
use Rattle.std.proofs.lemmas.Cmp.{int_cmp_total}
use Rattle.std.proofs.lemmas.List.Sorted.{IsPermutation-map}
use Rattle.sqlite_value.specs.declared.value.Value.TheVariants.{Int}
use Rattle.sqlite_value.specs.Order.{Row, column}
use Rattle.sqlite_trees.proofs.ListLemmas.{pull_back}
use Rattle.sqlaudit.specs.Lines.{AreNumbersOf}
use Rattle.sqlaudit.proofs.Rising.{rises}

abbrev below : ℤ → ℤ → Type 0
below a b = int_cmp a b ≡ Less

pub numbers_of : (rows : List Row) (numbers sorted : List ℤ) → map (λ (r : Row). column r 0) rows ≡ map Int numbers → IsPermutation numbers sorted → AllAdjacentBelow below sorted (length sorted) → AreNumbersOf rows sorted
numbers_of rows numbers sorted are same next =
    let from = pull_back (λ (r : Row). column r 0) (map Int numbers) (map Int sorted) (IsPermutation-map Int numbers sorted same) rows (sym are) in
    record {
      found = from.0;
      same = from.1;
      are = sym from.2;
      rising = rises below int_cmp_total.trans sorted next;
    }

less : (o : Ordering) → true ≡ is_lt o → o ≡ Less
less Less is = refl
less Equal is = cc
less Greater is = cc

pub answered_rising : (numbers : List ℤ) (r : Bool) → IsAllAdjacentAnswer (λ x y b. b ≡ is_lt (int_cmp x y)) numbers r → IsTrue r → AllAdjacentBelow below numbers (length numbers)
answered_rising numbers true is h = λ k d within. less _ (is k d within)
answered_rising numbers false is h = absurd cc
