-- What is told of the connection in a slot.
use Rattle.std.proofs.Common.{◌≡◌, ◌∙◌, ℕ, List, Option, Some, None, subst, sym, arith}
use Rattle.std.specs.Prelude.{IfSome}
use Rattle.std.specs.List.{ItemBy}
use Rattle.wire.specs.Crowds.{slot_at}

module _ {X : Type 0} where
  -- the one that is there
  pub if_there : (P : X → Type 0) (x : X) (o : Option X) → o ≡ Some x → P x → IfSome o P
  if_there P x o is h = subst (λ o. IfSome o P) (sym is) h

  -- the same one
  pub if_same : (P : X → Type 0) (x : X) (o : Option X) → IfSome o (λ y. x ≡ y) → P x → IfSome o P
  if_same P x None is h = tt
  if_same P x (Some y) is h = subst P is h

  -- none is there
  pub if_free : (P : X → Type 0) (o : Option X) → IfSome o (λ y. ⊥) → IfSome o P
  if_free P None none = tt
  if_free P (Some y) none = absurd none

  -- past the slots none is there
  pub past_free : {B : Type 0} (now : B → Option X) (slots : List (Option X)) (i : ℕ) (r : Option B) (P : X → Type 0) → ItemBy now slots i i r → r ≡ None → IfSome (slot_at slots i) P
  past_free now slots i None P it is = subst (λ o. IfSome o P) (it.4 (omega (arith)) None) tt
  past_free now slots i (Some b) P it is = absurd cc

  -- none is in a slot that is there
  pub there_free : {B : Type 0} (now : B → Option X) (slots : List (Option X)) (i : ℕ) (r : Option B) (b : B) (P : X → Type 0) → ItemBy now slots i i r → r ≡ Some b → now b ≡ None → IfSome (slot_at slots i) P
  there_free now slots i r b P it is free = let at = (subst (λ o. ItemBy now slots i i o) is it).4 (omega (arith)) None in subst (λ o. IfSome o P) (sym free ∙ at) tt
