-- Parameters whose names begin with a text, followed by others whose names do not.
use Rattle.std.proofs.Common.{◌≡◌, ℕ, Bool, true, false, not, List, [], ◌++◌, length, ap, ◌∙◌, All}
use Rattle.std.specs.Prelude.{IsPermutation}
use Rattle.std.proofs.lemmas.Bool.{false_from_ne_true}
use Rattle.std.proofs.lemmas.List.{append-nil}
use Rattle.std.proofs.lemmas.List.Elements.{All-append, All-weaker, All-from_recursion, recursion_from_All, filter-append}
use Rattle.std.proofs.lemmas.List.Sorted.{All-permutation, IsPermutation-sym}
use Rattle.std.proofs.lemmas.Slice.Eq.{bytes_eq-Decides}
use Rattle.sigtext.specs.Bytes.{same_bytes, begins_with}
use Rattle.sigtext.specs.Params.{params_named, StandOnce}
use Rattle.sigtext.specs.Target.{Param}
use Rattle.sigtext.proofs.Filters.{counted, none_pass, moved_one}
use Rattle.links.specs.Drafts.{param}
use Rattle.links.specs.WellFormed.{HasValue}

-- every name begins with the text, or none does
abbrev pub Begin : List ℕ → Bool → List Param → Type 0
Begin front b params = All (λ p. begins_with p.name front ≡ b) params

-- two names differ if only one of them begins with the text
pub names_differ : (front a b : List ℕ) → (begins_with a front ≡ begins_with b front → ⊥) → same_bytes a b ≡ false
names_differ front a b other = false_from_ne_true (same_bytes a b) (λ same. other (ap (λ (t : List ℕ). begins_with t front) ((bytes_eq-Decides a b).0 same)))

pub opposed : (x y b : Bool) → x ≡ not b → y ≡ b → x ≡ y → ⊥
opposed x y true h k e = absurd cc
opposed x y false h k e = absurd cc

none_named : (front name : List ℕ) (b : Bool) (params : List Param) → begins_with name front ≡ b → Begin front (not b) params → params_named name params ≡ []
none_named front name b params begins h =
    none_pass (λ q. same_bytes q.name name) params
    (All-weaker (λ q. begins_with q.name front ≡ not b) (λ q. same_bytes q.name name ≡ false) (λ q other. names_differ front q.name name (opposed _ _ b other begins)) params h)

-- a name that begins with the text is only among the first parameters
named_first : (front name : List ℕ) (given others : List Param) → begins_with name front ≡ true → Begin front false others → params_named name (given ++ others) ≡ params_named name given
named_first front name given others begins h =
    filter-append (λ q. same_bytes q.name name) given others
    ∙ ap (λ (ps : List Param). params_named name given ++ ps) (none_named front name true others begins h)
    ∙ append-nil (params_named name given)

-- a name that does not is only among the others
named_later : (front name : List ℕ) (given others : List Param) → begins_with name front ≡ false → Begin front true given → params_named name (given ++ others) ≡ params_named name others
named_later front name given others begins h =
    filter-append (λ q. same_bytes q.name name) given others
    ∙ ap (λ (ps : List Param). ps ++ params_named name others) (none_named front name false given begins h)

abbrev Once : List Param → Param → Type 0
Once params p = length (params_named p.name params) ≡ 1

-- if each name occurs once in either list, it occurs once in both together
pub joined_once : (front : List ℕ) (given others : List Param) → Begin front true given → Begin front false others → StandOnce given → StandOnce others → StandOnce (given ++ others)
joined_once front given others first later once_first once_later =
    recursion_from_All (Once (given ++ others)) (given ++ others) (All-append (Once (given ++ others)) given others of_given of_others)
  where
    of_given : All (Once (given ++ others)) given
    of_given = λ k d within. ap (λ (ps : List Param). length ps) (named_first front _ given others (first k d within) later) ∙ All-from_recursion (Once given) given once_first k d within

    of_others : All (Once (given ++ others)) others
    of_others = λ k d within. ap (λ (ps : List Param). length ps) (named_later front _ given others (later k d within) first) ∙ All-from_recursion (Once others) others once_later k d within

-- and a value among the first parameters stays the only one of its name
pub joined_value : (front name value : List ℕ) (given others : List Param) → begins_with name front ≡ true → Begin front false others → HasValue given name value → HasValue (given ++ others) name value
joined_value front name value given others begins h has = named_first front name given others begins h ∙ has

-- ---- a rearrangement

pub moved_once : (xs ys : List Param) → IsPermutation xs ys → StandOnce xs → StandOnce ys
moved_once xs ys moved once =
    recursion_from_All (Once ys) ys
    (All-permutation (Once ys) xs ys moved (All-weaker (Once xs) (Once ys) (λ p one. counted (λ q. same_bytes q.name p.name) xs ys moved ∙ one) xs (All-from_recursion (Once xs) xs once)))

pub moved_value : (xs ys : List Param) (name value : List ℕ) → IsPermutation xs ys → HasValue xs name value → HasValue ys name value
moved_value xs ys name value moved has = moved_one (λ q. same_bytes q.name name) ys xs (param name value) (IsPermutation-sym xs ys moved) has
