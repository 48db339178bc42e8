use Rattle.std.proofs.Common.{◌≡◌, ◌<◌, ◌≤◌, ◌∙◌, ⊎_elim, None, Some, length, sym, arith}
use Rattle.std.proofs.lemmas.Bool.{cases_lt}
use Rattle.std.proofs.lemmas.List.{get_or_default, get_or_past}
use Rattle.wire.specs.Crowds.{slot_at}
use Rattle.commands.proofs.Below.{up_to}
use Rattle.commands.proofs.rounds.are_free.Goals as goal

pub returns-in-Some-clause-all : goal.returns-in-Some-clause-all
returns-in-Some-clause-all g c all =
    let within : c.slots.index < length c.args.slots.now = omega (arith, c.slots-test.true) in
    let at = get_or_default c.args.slots.now c.slots.index None c.index-slots-index.result within in
    let both : ◌≡◌ None (Some c.in-Some.field-0) = sym (all c.slots.index) ∙ (at ∙ (sym c.index-slots-index.is ∙ c.in-Some.is)) in
    absurd cc

pub slots-preserved : goal.slots-preserved
slots-preserved g c =
    let within : c.slots.index < length c.args.slots.now = omega (arith, c.slots-test.true) in
    let at = get_or_default c.args.slots.now c.slots.index None c.index-slots-index.result within in
    up_to (λ p. slot_at c.args.slots.now p ≡ None) c.slots.index c.slots.invariant (at ∙ (sym c.index-slots-index.is ∙ c.in-None.is))

pub returns-clause-told : goal.returns-clause-told
returns-clause-told g c _ p =
    ⊎_elim
    (λ (lt : p < c.slots.index). c.slots.invariant p lt)
    (λ (ge : c.slots.index ≤ p). get_or_past c.args.slots.now p None (omega (arith, c.slots-test.false, ge)))
    (cases_lt p c.slots.index)

pub bounds-slots-index : goal.bounds-slots-index
bounds-slots-index g c = grind arith

pub offset_bounds-slots-index : goal.offset_bounds-slots-index
offset_bounds-slots-index g c = grind arith
