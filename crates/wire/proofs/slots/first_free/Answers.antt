use Rattle.std.proofs.Common.{◌≡◌, ◌<◌, ℕ, List, Option, None, length, get_or, sym, ap, ◌∙◌, ⊎_elim, arith}
use Rattle.std.proofs.lemmas.Bool.{cases_eq}
use Rattle.std.proofs.lemmas.List.{get_or_default}
use Rattle.wire.specs.Crowds.{slot_at}
use Rattle.wire.proofs.Ends.{none_of, not_none}
use Rattle.wire.proofs.slots.first_free.Goals as goal

-- what was read of a slot is its content
content : {X : Type 0} (slots : List (Option X)) (p : ℕ) (read : Option X) → p < length slots → read ≡ get_or slots p read → slot_at slots p ≡ read
content slots p read lt is = get_or_default slots p None read lt ∙ sym is

pub slots-preserved : goal.slots-preserved
slots-preserved g c =
    let here = content c.args.slots.now c.slots.index c.index-slots-index.result c.slots-test.true c.index-slots-index.is in
    λ p lt free.
    ⊎_elim
    (λ (e : p ≡ c.slots.index). not_none c.index-slots-index.result c.if-is_none.ensures (sym here ∙ ap (slot_at c.args.slots.now) (sym e) ∙ free))
    (λ (ne : p ≡ c.slots.index → ⊥). c.slots.invariant p (omega (arith, lt, ne)) free)
    (cases_eq p c.slots.index)

pub returns-then-is_none-clause-some : goal.returns-then-is_none-clause-some
returns-then-is_none-clause-some g c =
    let here = content c.args.slots.now c.slots.index c.index-slots-index.result c.slots-test.true c.index-slots-index.is in
    (c.slots-test.true, here ∙ none_of c.index-slots-index.result c.if-is_none.ensures)

pub returns-clause-none : goal.returns-clause-none
returns-clause-none g c = λ p lt free. c.slots.invariant p (omega (arith, lt, c.slots-test.false)) free
