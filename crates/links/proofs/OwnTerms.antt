-- The requirements on the parameters and the headers of an order.
use Rattle.std.proofs.Common.{◌≡◌, ℕ, Bool, true, false, cond, List, [], ◌∷◌, length, map, refl, ap, arith}
use Rattle.std.specs.Prelude.{filter, IsTrue, ◌↔◌, Option, Some, None, IfSome, IfNone}
use Rattle.std.specs.List.{AllByRecursion}
use Rattle.std.specs.Option.{is_some}
use Rattle.sigtext.specs.Bytes.{same_bytes}
use Rattle.sigtext.specs.Fields.{header_of}
use Rattle.sigtext.specs.Params.{params_named}
use Rattle.sigtext.specs.SignedHeaders.{Header, named}
use Rattle.sigtext.specs.Target.{Param}
use Rattle.sigtext.specs.declared.field.Field.{Field}
use Rattle.links.specs.Orders.{param_of}
use Rattle.links.specs.declared.orders.OrderParam.{OrderParam}

-- a list of the code's parameters and the list that it means have equally many parameters of a name
pub named_raw : (name : List ℕ) (params : List OrderParam) → length (filter (λ p. same_bytes p.name.now name) params) ≡ length (params_named name (map param_of params))
named_raw name [] = refl
named_raw name (p ∷ params) = one (same_bytes p.name.now name) p _ _ (named_raw name params)
  where
    one : (b : Bool) (p : OrderParam) (xs : List OrderParam) (ys : List Param) → length xs ≡ length ys → length (cond b (p ∷ xs) xs) ≡ length (cond b (param_of p ∷ ys) ys)
    one true p xs ys e = omega (arith, e)
    one false p xs ys e = e

-- a condition holds for the image of each element exactly if it holds for each element of the mapped list
pub each_mapped : {A B : Type 0} (f : A → B) (P : B → Type 0) (xs : List A) → AllByRecursion (λ x. P (f x)) xs ↔ AllByRecursion P (map f xs)
each_mapped f P [] = (λ h. tt, λ h. tt)
each_mapped f P (x ∷ xs) = let later = each_mapped f P xs in (λ h. (h.0, later.0 h.1), λ h. (h.0, later.1 h.1))

single : {X : Type 0} (xs : List X) → length xs ≡ 1 → (x : X) × (xs ≡ x ∷ [])
single [] e = absurd (omega (arith, e))
single (x ∷ []) e = (x, refl)
single (x ∷ y ∷ xs) e = absurd (omega (arith, e))

-- a search for the only field of a name finds one exactly if one header has the name
pub found_alone : (name : List ℕ) (headers : List Header) (found : Option Field) → IfSome found (λ f. named name headers ≡ header_of f ∷ []) → IfNone found ((h : Header) → named name headers ≡ h ∷ [] → ⊥)
    → IsTrue (is_some found) ↔ (length (named name headers) ≡ 1)
found_alone name headers (Some f) some none = (λ e. ap (λ (hs : List Header). length hs) some, λ e. refl)
found_alone name headers None some none = (λ e. absurd cc, λ one. absurd (let h = single (named name headers) one in none h.0 h.1))
