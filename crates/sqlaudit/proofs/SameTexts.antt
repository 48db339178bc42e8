-- Lists that are compared item by item.
use Rattle.std.proofs.Common.{◌≡◌, ℕ, List, [], ◌∷◌, map, Bool, true, false, refl, sym, ◌∙◌, eqb, eq-eqb}
use Rattle.std.specs.Prelude.{◌&&◌}
use Rattle.std.specs.Cmp.Lexicographic.{pointwise}
use Rattle.std.proofs.lemmas.Bool.{and_parts, eqb-true}
use mathlib.Core.Bool.{beq}

-- the test passes exactly if both mean the same
abbrev pub Tells : {X Y : Type 0} → (X → X → Bool) → (X → Y) → Type 0
Tells {X} e f = (x y : X) → (e x y ≡ true → f x ≡ f y) × (f x ≡ f y → e x y ≡ true)

pub same_items : {X Y : Type 0} (e : X → X → Bool) (f : X → Y) → Tells e f → (xs ys : List X) → (pointwise e xs ys ≡ true → map f xs ≡ map f ys) × (map f xs ≡ map f ys → pointwise e xs ys ≡ true)
same_items e f h [] [] = (λ t. refl, λ q. refl)
same_items e f h [] (y ∷ ys) = (λ t. absurd cc, λ q. absurd cc)
same_items e f h (x ∷ xs) [] = (λ t. absurd cc, λ q. absurd cc)
same_items e f h (x ∷ xs) (y ∷ ys) =
    let rest = same_items e f h xs ys in (
      λ t. let p = and_parts (e x y) (pointwise e xs ys) t in λ i. ((h x y).0 p.0) i ∷ (rest.0 p.1) i,
      λ q.
          let first : f x ≡ f y = cc in
          let others : map f xs ≡ map f ys = cc in
          λ i. ((h x y).1 first) i && (rest.1 others) i,
    )

map_itself : {X : Type 0} (xs : List X) → map (λ x. x) xs ≡ xs
map_itself [] = refl
map_itself (x ∷ xs) = λ i. x ∷ map_itself xs i

pub same_list : {X : Type 0} (e : X → X → Bool) → Tells e (λ x. x) → (xs ys : List X) → (pointwise e xs ys ≡ true → xs ≡ ys) × (xs ≡ ys → pointwise e xs ys ≡ true)
same_list e h xs ys =
    let both = same_items e (λ x. x) h xs ys in (
      λ t. sym (map_itself xs) ∙ both.0 t ∙ map_itself ys,
      λ q. both.1 (map_itself xs ∙ q ∙ sym (map_itself ys)),
    )

pub tells_bool : Tells beq (λ (b : Bool). b)
tells_bool true true = (λ t. refl, λ q. refl)
tells_bool false false = (λ t. refl, λ q. refl)
tells_bool true false = (λ t. absurd cc, λ q. absurd cc)
tells_bool false true = (λ t. absurd cc, λ q. absurd cc)

pub tells_text : (xs ys : List ℕ) → (pointwise eqb xs ys ≡ true → xs ≡ ys) × (xs ≡ ys → pointwise eqb xs ys ≡ true)
tells_text = same_list eqb (λ x y. (eqb-true x y, eq-eqb x y))
