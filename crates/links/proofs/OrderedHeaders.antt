-- The wanted headers in another order.
use Rattle.std.proofs.Common.{◌≡◌, ℕ, Bool, true, List, map}
use Rattle.std.specs.Prelude.{IsPermutation, IsTrue}
use Rattle.std.specs.List.{list_all, AllByRecursion}
use Rattle.std.proofs.lemmas.List.Elements.{All-from_recursion, All-weaker, recursion_from_All}
use Rattle.std.proofs.lemmas.List.Sorted.{All-permutation, IsPermutation-sym}
use Rattle.std.proofs.lemmas.List.Sums.{AllPass-from_list_all, list_all-from_AllPass}
use Rattle.sigtext.specs.Bytes.{same_bytes}
use Rattle.sigtext.specs.Rules.{AllHold}
use Rattle.sigtext.specs.SignedHeaders.{Header, lower_case, IsSignedValue}
use Rattle.sigtext.specs.SignedValues.{IsFitValue, is_covered, ValueRule}
use Rattle.sigtext.proofs.Filters.{moved_one}
use Rattle.sigtext.proofs.ValuesNamed.{both_hold}
use Rattle.links.specs.Orders.{Terms, AreSound, wanted}
use Rattle.links.proofs.OwnHeaders.{own_given, own_covered, wanted_fit, values_given, cover_moved}

-- what holds for each element of a list holds for each element of its rearrangement
pub each_moved : {X : Type 0} (P : X → Type 0) (xs ys : List X) → IsPermutation xs ys → AllByRecursion P xs → AllByRecursion P ys
each_moved P xs ys moved all = recursion_from_All P ys (All-permutation P xs ys moved (All-from_recursion P xs all))

-- rearranged headers have the same signed value
value_moved : (xs ys : List Header) (name value : List ℕ) → IsPermutation xs ys → IsSignedValue xs name value → IsSignedValue ys name value
value_moved xs ys name value moved (h, is, at) = (h, moved_one (λ x. same_bytes (lower_case x.name) name) ys xs h (IsPermutation-sym xs ys moved) is, at)

given_moved : (xs ys : List Header) → IsPermutation xs ys → AllByRecursion (λ h. IsSignedValue xs h.name h.value) xs → AllByRecursion (λ h. IsSignedValue ys h.name h.value) ys
given_moved xs ys moved all =
    recursion_from_All (λ h. IsSignedValue ys h.name h.value) ys
    (All-weaker (λ h. IsSignedValue xs h.name h.value) (λ h. IsSignedValue ys h.name h.value) (λ h is. value_moved xs ys h.name h.value moved is) ys
    (All-permutation (λ h. IsSignedValue xs h.name h.value) xs ys moved (All-from_recursion (λ h. IsSignedValue xs h.name h.value) xs all)))

-- the wanted headers, in any order, are their own signed values
pub own_values : (t : Terms) → AreSound t → (hs : List Header) → IsPermutation (wanted t) hs → AllHold (ValueRule hs (map (λ h. h.name) hs)) hs
own_values t sound hs moved =
    both_hold hs (map (λ h. h.name) hs) hs
    (values_given hs hs (given_moved (wanted t) hs moved (own_given t sound)), each_moved (λ h. IsFitValue h.value) (wanted t) hs moved (wanted_fit t sound))
    (test_moved (is_covered hs) (wanted t) hs moved (cover_moved (wanted t) hs (wanted t) moved (own_covered t sound)))
  where
    test_moved : {X : Type 0} (p : X → Bool) (xs ys : List X) → IsPermutation xs ys → IsTrue (list_all p xs) → IsTrue (list_all p ys)
    test_moved p xs ys moved all = list_all-from_AllPass p ys (All-permutation (λ x. p x ≡ true) xs ys moved (AllPass-from_list_all p xs all))
