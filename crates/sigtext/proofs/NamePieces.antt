-- The pieces of a text, split at `;`, in order.
use Rattle.std.proofs.Common.{◌≡◌, ℕ, suc, ◌+◌, ◌<◌, ◌≤◌, Bool, true, false, not, eqb, List, [], ◌∷◌, length, drop, get_or, Option, Some, refl, sym, ap, subst, ◌∙◌, inl, inr, ⊎_elim, arith}
use Rattle.std.specs.Prelude.{◌||◌, ◌↔◌, ◌⊎◌, Contains, codes, IsTrue, MatchBool}
use Rattle.std.specs.List.{AllByRecursion, slice_split, AllWithin, HoldsAt}
use Rattle.std.specs.Ordering.{nat_cmp, is_lt, is_ge, is_some_and, ordering_then, partial_ordering_then}
use Rattle.std.specs.declared.cmp.Ordering.{Ordering}
use Rattle.std.specs.declared.cmp.Ordering.TheVariants.{Less, Equal, Greater}
use Rattle.std.specs.Cmp.Lexicographic.{slice_partial_cmp}
use Rattle.std.proofs.lemmas.Bool.{and_parts, and_from, or_cases, or_right, true≢false, false≢true, MatchBool-at_true}
use Rattle.std.proofs.lemmas.List.{at_drop_more, drop_all}
use Rattle.std.proofs.lemmas.List.Splits.{join_with_byte-slice_split}
use Rattle.std.proofs.lemmas.List.Elements.{All-from_recursion, recursion_from_All, All-from_all_within}
use Rattle.std.proofs.lemmas.Iterator.Search.{true_from_All}
use Rattle.std.proofs.lemmas.Slice.Eq.{bytes_eq-Decides}
use Rattle.sigtext.specs.Bytes.{same_bytes, bytes_cmp}
use Rattle.sigtext.specs.CanonicalQuery.{ascends}
use Rattle.sigtext.specs.SignedNames.{IsHeaderName, AreSignedNames}
use Rattle.sigtext.proofs.Ascending.{first_or_later}
use Rattle.sigtext.proofs.NamesOnce.{names_are}

-- ---- the order of two texts

then_some : (o : Ordering) (p : Option Ordering) (q : Ordering) → p ≡ Some q → partial_ordering_then (Some o) p ≡ Some (ordering_then o q)
then_some Less p q e = refl
then_some Equal p q e = e
then_some Greater p q e = refl

compared : (xs ys : List ℕ) → slice_partial_cmp (λ (x : ℕ) (y : ℕ). Some (nat_cmp x y)) xs ys ≡ Some (bytes_cmp xs ys)
compared [] [] = refl
compared [] (y ∷ ys) = refl
compared (x ∷ xs) [] = refl
compared (x ∷ xs) (y ∷ ys) = then_some (nat_cmp x y) _ (bytes_cmp xs ys) (compared xs ys)

other_way : (o : Ordering) → is_ge o ≡ not (is_lt o)
other_way Less = refl
other_way Equal = refl
other_way Greater = refl

-- the test `>=` of two texts
pub not_below : (a x : List ℕ) (r : Bool) → r ≡ is_some_and is_ge (slice_partial_cmp (λ (x : ℕ) (y : ℕ). Some (nat_cmp x y)) a x) → r ≡ not (is_lt (bytes_cmp a x))
not_below a x r e = e ∙ ap (is_some_and is_ge) (compared a x) ∙ other_way (bytes_cmp a x)

-- ---- each of some pieces

-- the answer of `all` with a test that decides P
pub each_piece : {X : Type 0} (P : X → Type 0) (r : Bool) (all : List X)
    → MatchBool r (AllWithin P all 0 (length all)) ((k : ℕ) × (k < length all) × HoldsAt (λ x. P x → ⊥) all k)
    → IsTrue r ↔ AllByRecursion P all
each_piece P r all cases = (
  λ t. recursion_from_All P all (All-from_all_within P all (MatchBool-at_true _ _ t cases)),
  λ each. true_from_All P (λ x. P x → ⊥) r all (λ x p none. none p) cases (All-from_recursion P all each),
)

-- ---- the pieces that are left

abbrev host : List ℕ
host = codes "host"

-- the texts are header names and ascend from `before`, and `host` is one of them, or stood before
abbrev pub AreNames : List (List ℕ) → List ℕ → Bool → Type 0
AreNames names before stood = AllByRecursion IsHeaderName names × (ascends (before ∷ names) ≡ true) × ((stood ≡ true) ⊎ Contains names host)

here : (names : List (List ℕ)) (name : List ℕ) → Contains (name ∷ names) name
here names name = (0, omega arith, refl)

further : (names : List (List ℕ)) (name other : List ℕ) → Contains names other → Contains (name ∷ names) other
further names name other (k, within, is) = (suc k, omega (arith, within), is)

one_more : (name before : List ℕ) (names : List (List ℕ)) (stood is_host : Bool) → IsHeaderName name → is_lt (bytes_cmp before name) ≡ true → is_host ≡ same_bytes name host
    → AreNames names name (stood || is_host) ↔ AreNames (name ∷ names) before stood
one_more name before names stood is_host form up is = (
  λ h. (
    (form, h.0),
    and_from _ _ up h.1,
    ⊎_elim
        (λ (e : (stood || is_host) ≡ true). ⊎_elim inl (λ (t : is_host ≡ true). inr (subst (Contains (name ∷ names)) ((bytes_eq-Decides name host).0 (sym is ∙ t)) (here names name))) (or_cases stood is_host e))
        (λ c. inr (further names name host c)) h.2,
  ),
  λ h. (
    h.0.1,
    (and_parts (is_lt (bytes_cmp before name)) (ascends (name ∷ names)) h.1).1,
    ⊎_elim
        (λ (t : stood ≡ true). inl (ap (λ (b : Bool). b || is_host) t))
        (λ c. ⊎_elim (λ (e : name ≡ host). inl (or_right stood is_host (is ∙ (bytes_eq-Decides name host).1 e))) inr (first_or_later name names host c)) h.2,
  ),
)

-- the pieces from the nth on
from_nth : (all : List (List ℕ)) (n : ℕ) (name : List ℕ) → (n < length all) × (name ≡ get_or all n name) → drop n all ≡ name ∷ drop (n + 1) all
from_nth all n name t = at_drop_more (λ (names : List (List ℕ)). names) all n name t.0 ∙ ap (λ (x : List ℕ). x ∷ drop (n + 1) all) (sym t.1)

-- one more piece, which ascends and is a header name
pub goes_on : {whole : Type 0} (all : List (List ℕ)) (n m : ℕ) (before name : List ℕ) (stood is_host : Bool) → (n < length all) × (name ≡ get_or all n name) → m ≡ n + 1
    → IsHeaderName name → is_lt (bytes_cmp before name) ≡ true → is_host ≡ same_bytes name host → AreNames (drop n all) before stood ↔ whole
    → AreNames (drop m all) name (stood || is_host) ↔ whole
goes_on all n m before name stood is_host turn next form up is same =
    let one = one_more name before (drop (n + 1) all) stood is_host form up is in
    let here = from_nth all n name turn in (
      λ h. same.0 (subst (λ (names : List (List ℕ)). AreNames names before stood) (sym here) (one.0 (subst (λ (k : ℕ). AreNames (drop k all) name (stood || is_host)) next h))),
      λ w. subst (λ (k : ℕ). AreNames (drop k all) name (stood || is_host)) (sym next) (one.1 (subst (λ (names : List (List ℕ)). AreNames names before stood) here (same.1 w))),
    )

-- a piece that does not ascend
pub falls : (all : List (List ℕ)) (n : ℕ) (before name : List ℕ) (stood : Bool) → (n < length all) × (name ≡ get_or all n name) → true ≡ not (is_lt (bytes_cmp before name))
    → AreNames (drop n all) before stood → ⊥
falls all n before name stood turn down h =
    let up = subst (λ (names : List (List ℕ)). AreNames names before stood) (from_nth all n name turn) h in
    let less = (and_parts (is_lt (bytes_cmp before name)) (ascends (name ∷ drop (n + 1) all)) up.1).0 in
    true≢false (down ∙ ap not less)

-- a piece that is no header name
pub is_none : (all : List (List ℕ)) (n : ℕ) (before name : List ℕ) (stood : Bool) → (n < length all) × (name ≡ get_or all n name) → (IsHeaderName name → ⊥)
    → AreNames (drop n all) before stood → ⊥
is_none all n before name stood turn none h = none (subst (λ (names : List (List ℕ)). AreNames names before stood) (from_nth all n name turn) h).0.0

-- after the last piece
pub all_came : {whole : Type 0} (all : List (List ℕ)) (n : ℕ) (before : List ℕ) (stood : Bool) → length all ≤ n → AreNames (drop n all) before stood ↔ whole → (stood ≡ true) ↔ whole
all_came all n before stood past same =
    let none = drop_all n all past in (
      λ t. same.0 (subst (λ (names : List (List ℕ)). AreNames names before stood) (sym none) (tt, refl, inl t)),
      λ w. ⊎_elim (λ (t : stood ≡ true). t) (λ c. absurd (omega (arith, c.1))) (subst (λ (names : List (List ℕ)). AreNames names before stood) none (same.1 w)).2,
    )

-- ---- the pieces are the names

abbrev pieces : List ℕ → List (List ℕ)
pieces text = slice_split (λ b. eqb b 59) text

later_rise : (x : List ℕ) (xs : List (List ℕ)) → ascends (x ∷ xs) ≡ true → ascends xs ≡ true
later_rise x [] h = refl
later_rise x (y ∷ ys) h = (and_parts (is_lt (bytes_cmp x y)) (ascends (y ∷ ys)) h).1

are_names : (text : List ℕ) → AreNames (pieces text) [] false → AreSignedNames text (pieces text)
are_names text h = record {
  joined = sym (join_with_byte-slice_split 59 text);
  forms = h.0;
  ascend = later_rise [] (pieces text) h.1;
  host = ⊎_elim (λ (t : false ≡ true). absurd (false≢true t)) (λ c. c) h.2;
}

all_rise : (names : List (List ℕ)) → AllByRecursion IsHeaderName names → ascends names ≡ true → ascends ([] ∷ names) ≡ true
all_rise [] forms rise = refl
all_rise ([] ∷ names) forms rise = let some = forms.0.some in absurd (omega (arith, some))
all_rise ((b ∷ name) ∷ names) forms rise = rise

-- the pieces are names where the text has names
pub signed_names : (text : List ℕ) → AreNames (pieces text) [] false ↔ ((names : List (List ℕ)) × AreSignedNames text names)
signed_names text = (
  λ h. (pieces text, are_names text h),
  λ s.
      let same = names_are text s.0 s.1 in
      subst (λ (names : List (List ℕ)). AreNames names [] false) same (s.1.forms, all_rise s.0 s.1.forms s.1.ascend, inr s.1.host),
)
