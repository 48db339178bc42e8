-- The lines of receipts.
use Rattle.std.proofs.Common.{◌≡◌, ◌∙◌, ℕ, ◌+◌, ◌<◌, List, [], ◌∷◌, ◌++◌, length, get_or, map, take, ap, arith, refl, sym, subst, zero, suc}
use Rattle.std.specs.List.{AllByRecursion}
use Rattle.std.proofs.lemmas.List.{take_more}

pub map_push : {A B : Type 0} (f : A → B) (xs : List A) (x : A) → map f (xs ++ x ∷ []) ≡ map f xs ++ f x ∷ []
map_push f [] x = refl
map_push f (y ∷ ys) x = ap (λ t. f y ∷ t) (map_push f ys x)

pub map_more : {A B : Type 0} (f : A → B) (xs : List A) (i : ℕ) (d x : A) → i < length xs → x ≡ get_or xs i d → map f (take (i + 1) xs) ≡ map f (take i xs) ++ f x ∷ []
map_more f xs i d x within is = ap (map f) (take_more xs i d within) ∙ map_push f (take i xs) (get_or xs i d) ∙ ap (λ y. map f (take i xs) ++ f y ∷ []) (sym is)

pub all_at : {A B : Type 0} (P : B → Type 0) (f : A → B) (xs : List A) (i : ℕ) (d x : A) → i < length xs → x ≡ get_or xs i d → AllByRecursion P (map f xs) → P (f x)
all_at P f [] i d x within is all = absurd (omega (arith, within))
all_at P f (y ∷ ys) zero d x within is all = subst (λ z. P (f z)) (sym is) all.0
all_at P f (y ∷ ys) (suc i) d x within is all = all_at P f ys i d x (omega (arith, within)) is all.1
