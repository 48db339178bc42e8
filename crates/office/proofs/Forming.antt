-- What the method of a message and the role of its key decide.
use Rattle.std.proofs.Common.{◌≡◌, ◌⊎◌, ℕ, false, length, List, [], ◌∷◌, inl, inr, arith, refl, ap}
use Rattle.std.specs.Prelude.{◌==◌, codes}
use Rattle.sigtext.specs.Request.{Request}
use Rattle.links.specs.Methods.{method_text}
use Rattle.links.specs.declared.methods.Method.{Method}
use Rattle.links.specs.declared.methods.Method.TheVariants as method
use Rattle.links.proofs.Texts.{clash}
use Rattle.office.proofs.Deciding.{head_is, second_is}
use Rattle.boxes.specs.declared.rows.Role.TheVariants.{Clerk, Link}
use Rattle.office.specs.Rules.{IsPut, IsFetch}

pub link_no_clerk : Link ≡ Clerk → ⊥
link_no_clerk e = cc

-- the method with this text
pub is_put : (m : Method) → method_text m ≡ codes "PUT" → m ≡ method.Put
is_put method.Put e = refl
is_put method.Get e = let x = head_is 71 80 (69 ∷ 84 ∷ []) (85 ∷ 84 ∷ []) e in absurd (omega (arith, x))
is_put method.Head e = let x = head_is 72 80 (69 ∷ 65 ∷ 68 ∷ []) (85 ∷ 84 ∷ []) e in absurd (omega (arith, x))
is_put method.Post e = let x = second_is 80 80 79 85 (83 ∷ 84 ∷ []) (84 ∷ []) e in absurd (omega (arith, x))

pub is_post : (m : Method) → method_text m ≡ codes "POST" → m ≡ method.Post
is_post method.Put e = let x = second_is 80 80 85 79 (84 ∷ []) (83 ∷ 84 ∷ []) e in absurd (omega (arith, x))
is_post method.Get e = let x = head_is 71 80 (69 ∷ 84 ∷ []) (79 ∷ 83 ∷ 84 ∷ []) e in absurd (omega (arith, x))
is_post method.Head e = let x = head_is 72 80 (69 ∷ 65 ∷ 68 ∷ []) (79 ∷ 83 ∷ 84 ∷ []) e in absurd (omega (arith, x))
is_post method.Post e = refl

-- any request but a POST uses a box
pub uses_boxes : (r : Request) (m : Method) → r.method ≡ method_text m → (m ≡ method.Post → ⊥) → IsPut r ⊎ IsFetch r
uses_boxes r method.Put is other = inl is
uses_boxes r method.Get is other = inr (inl is)
uses_boxes r method.Head is other = inr (inr is)
uses_boxes r method.Post is other = absurd (other refl)

pub not_empty : (body : List ℕ) → (length body == 0) ≡ false → body ≡ [] → ⊥
not_empty body full none = clash (length body == 0) full (ap (λ (b : List ℕ). length b == 0) none)
