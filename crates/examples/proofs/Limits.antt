-- Which boxes a key may use, on small states.
use Rattle.std.proofs.Common.{◌≡◌, List, ℕ, [], codes, None, Some, true, false, refl, sym, ap, ◌∙◌}
use Rattle.std.specs.Prelude.{is_some}
use Rattle.std.specs.FinMap.{empty, insert, get, get-empty}
use Rattle.boxes.specs.State.{Limit, limit_cmp, State}
use Rattle.boxes.specs.Limits.{IsLimited, IsLimitedTo, MayUse}
use Rattle.boxes.proofs.LimitedKeys.{limit_here, limit_got}

true_false : false ≡ true → ⊥
true_false e = cc

-- if there are no limits, each key may use each box, whether or not they exist
pub unlimited : (s : State) (key box : List ℕ) → s.limits ≡ empty → MayUse s key box
unlimited s key box none limited =
    absurd (true_false (sym (ap is_some (ap (λ m. get m (record { key = key; box = limited.0 })) none ∙ get-empty limit_cmp _)) ∙ limited.1))

module _ (s : State) (nobody : s.limits ≡ empty) where
  -- a key that is limited to one box
  abbrev pub one : State
  one = record s { limits = insert s.limits (record { key = codes "k2"; box = codes "in" }) tt }

  only : (key box : List ℕ) → IsLimitedTo one key box → (key ≡ codes "k2") × (box ≡ codes "in")
  only key box held =
      limit_got s.limits (codes "k2") (codes "in") key box ((key ≡ codes "k2") × (box ≡ codes "in")) held (λ k b. (k, b))
      (λ old. absurd (true_false (sym (ap is_some (ap (λ m. get m (record { key = key; box = box })) nobody ∙ get-empty limit_cmp _)) ∙ old)))

  pub its_box : MayUse one (codes "k2") (codes "in")
  its_box limited = limit_here s.limits (codes "k2") (codes "in")

  pub no_other_box : (box : List ℕ) → (box ≡ codes "in" → ⊥) → MayUse one (codes "k2") box → ⊥
  no_other_box box other may = other (only (codes "k2") box (may (codes "in", limit_here s.limits (codes "k2") (codes "in")))).1

  -- another key may use all boxes
  pub another_key : (key box : List ℕ) → (key ≡ codes "k2" → ⊥) → MayUse one key box
  another_key key box other limited = absurd (other (only key limited.0 limited.1).0)
