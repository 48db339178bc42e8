-- The texts that the getters return, by the rows of the matches.
use Rattle.std.proofs.Common.{rules, ◌≡◌, ◌⊎◌, inl, inr, ◌∙◌, ap, refl, subst, sym, false, true, List, map, Option, Some, None, is_some, Bor}
use Rattle.std.specs.Option.{option_or}
use Rattle.std.specs.Prelude.{option_map, IfSome, IsSome}
use Rattle.clap.specs.Words.{Text, all_of, first_of, first_value, matched_of, raw_values, rows_of}
use Rattle.clap.specs.declared.parser.matches.Found.{Found}
use Rattle.clap.proofs.WalkLemmas.{first_value-rows, raw_values-rows}

pub value_given : (name : Text) (f : Found) (given : Option (Bor Text)) → option_map (λ s. s.now) given ≡ first_value f name
    → IfSome given (λ s. first_of name (rows_of f) ≡ Some s.now)
value_given name f None text = tt
value_given name f (Some v) text = sym (first_value-rows f name) ∙ sym text

pub some_given : (name : Text) (f : Found) (given : Option (Bor Text)) → option_map (λ s. s.now) given ≡ first_value f name → is_some (first_of name (rows_of f)) ≡ true → IsSome given
some_given name f None text has =
    let missing : first_of name (rows_of f) ≡ None = sym (first_value-rows f name) ∙ sym text in
    let bad : false ≡ true = rw missing at has in
    cc
some_given name f (Some v) text has = search rules

pub none_given : (name : Text) (f : Found) (given : Option (Bor Text)) → option_map (λ s. s.now) given ≡ first_value f name → given ≡ None → first_of name (rows_of f) ≡ None
none_given name f given text none = sym (first_value-rows f name) ∙ sym text ∙ ap (option_map (λ s. s.now)) none

pub given_or_none : (name : Text) (f : Found) (given : Option (Bor Text)) → IfSome given (λ s. first_of name (rows_of f) ≡ Some s.now)
    → (given ≡ None → first_of name (rows_of f) ≡ None) → first_of name (rows_of f) ≡ option_map (λ s. s.now) given
given_or_none name f None some none = none refl
given_or_none name f (Some v) some none = some

abbrev Texts : Type 0
Texts = Bor (List (Bor Text))

pub values_given : (name : Text) (f : Found) (given : Option Texts) (v : Texts) (items : List (Bor Text))
    → option_map (λ s. map (λ t. t.now) s.now) given ≡ option_map raw_values (matched_of f name) → given ≡ Some v → items ≡ v.now
    → all_of name (rows_of f) ≡ Some (map (λ t. t.now) items)
values_given name f given v items text some same =
    sym (raw_values-rows f name) ∙ sym text ∙ ap (option_map (λ s. map (λ t. t.now) s.now)) some ∙ ap (λ (xs : List (Bor Text)). Some (map (λ t. t.now) xs)) (sym same)

pub no_values_given : (name : Text) (f : Found) (given : Option Texts) → option_map (λ s. map (λ t. t.now) s.now) given ≡ option_map raw_values (matched_of f name) → given ≡ None
    → is_some (all_of name (rows_of f)) ≡ true → ⊥
no_values_given name f given text none has =
    let missing : all_of name (rows_of f) ≡ None = sym (raw_values-rows f name) ∙ sym text ∙ ap (option_map (λ s. map (λ t. t.now) s.now)) none in
    let bad : false ≡ true = rw missing at has in
    cc

-- ---- what was found

pub found_is : {X : Type 0} (found : Option X) (x : X) (P : X → Type 0) → IfSome found P → found ≡ Some x → P x
found_is found x P holds is =
    let h : IfSome (Some x) P = subst (λ o. IfSome o P) is holds in
    h

pub not_none : {X : Type 0} (found : Option X) → IsSome found → found ≡ None → ⊥
not_none {X} found some is =
    let none : Option X = None in
    let bad : IsSome none = subst (λ o. IsSome o) is some in
    cc

-- ---- what was found first

-- the first or the second
pub some_or : {X : Type 0} (x y r : Option X) → r ≡ option_or x y → IsSome x ⊎ IsSome y → IsSome r
some_or (Some x) y r same some = subst (λ o. IsSome o) (sym same) refl
some_or None y r same (inl some) =
    let bad : false ≡ true = some in
    cc
some_or None y r same (inr some) = subst (λ o. IsSome o) (sym same) some

pub if_some_or : {X : Type 0} (P : X → Type 0) (x y r : Option X) → r ≡ option_or x y → IfSome x P → IfSome y P → IfSome r P
if_some_or P (Some x) y r same one other = subst (λ o. IfSome o P) (sym same) one
if_some_or P None y r same one other = subst (λ o. IfSome o P) (sym same) other
