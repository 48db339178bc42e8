-- What is held in a group, and what is published once it is added.
use Rattle.std.proofs.Common.{◌≡◌, ◌∙◌, ℕ, List, [], ◌++◌, Option, None, Some, Err, refl, sym, ap, subst, append-nil}
use Rattle.std.proofs.lemmas.Bool.{true≢false}
use Rattle.std.specs.Prelude.{IsNone, Vec, ⊤}
use Rattle.std.specs.declared.alloc.Global.{Global}
use Rattle.boxes.specs.State.{State}
use Rattle.lists.specs.Published.{Adds, AddsAll, HoldsNoLine, IsBegun, IsPublished, with_held}
use Rattle.lists.proofs.Begun.{begun_added}

-- no line is held
pub with_no_line : (held : Option (Vec ℕ Global)) (contents : Option (List ℕ)) → HoldsNoLine held → with_held held contents ≡ contents
with_no_line None contents none = refl
with_no_line (Some held) None none = refl
with_no_line (Some held) (Some text) none = ap (λ t. Some (text ++ t)) none ∙ ap (λ t. Some t) (append-nil text)

-- a group begins, unless one has begun
pub with_begun : (held : Option (Vec ℕ Global)) (begun : Vec ℕ Global) (contents : Option (List ℕ)) → IsNone held → begun.items ≡ [] → with_held (Some begun) contents ≡ with_held held contents
with_begun None begun contents is none = with_no_line (Some begun) contents none
with_begun (Some held) begun contents is none = absurd (true≢false is)

-- what was held was added
pub published_held : (s : State) (held : Vec ℕ Global) (bytes : List ℕ) (old new : Option (List ℕ)) → bytes ≡ held.items → IsPublished s (with_held (Some held) old) → AddsAll bytes old new → IsPublished s new
published_held s held bytes None new same published added = subst (IsPublished s) (sym added) tt
published_held s held bytes (Some text) new same published added = subst (IsPublished s) (sym (added ∙ ap (λ t. Some (text ++ t)) same)) published

-- the same, perhaps in part
pub begun_held : (s : State) (held : Vec ℕ Global) (bytes : List ℕ) (old new : Option (List ℕ)) → bytes ≡ held.items → IsPublished s (with_held (Some held) old) → Adds {T = ⊤} {E = ⊤} bytes old new (Err tt) → IsBegun s new
begun_held s held bytes None new same published added = subst (IsBegun s) (sym added) tt
begun_held s held bytes (Some text) new same published added = begun_added s text bytes new (subst (λ t. IsPublished s (Some (text ++ t))) (sym same) published) added
