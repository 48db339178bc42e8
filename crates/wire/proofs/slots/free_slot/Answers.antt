use borrow.Author.Rules.{scaled_Fits}
use Rattle.std.proofs.Common.{[], None, ap, subst, sym, ◌∙◌}
use Rattle.std.specs.Prelude.{slice_set}
use Rattle.std.proofs.lemmas.List.{get_or_default}
use Rattle.wire.specs.Crowds.{Changes, those_of}
use Rattle.wire.proofs.Changing.{by_goes}
use Rattle.wire.proofs.slots.free_slot.Goals as goal

pub returns-clause-given : goal.returns-clause-given
returns-clause-given g c = c.take.ensures.value ∙ sym (get_or_default c.args.slots.now c.args.index None c.index-slots-index.result c.requires)

pub returns-clause-free : goal.returns-clause-free
returns-clause-free g c = ap (slice_set c.args.slots.now c.args.index) c.take.ensures.after

pub returns-clause-changes : goal.returns-clause-changes
returns-clause-changes g c =
    subst (λ v. Changes g.R.Read.remaining g.W.Write.contents c.args.slots.now (slice_set c.args.slots.now c.args.index v) [] (those_of c.take.result)) (sym c.take.ensures.after)
    (by_goes g.R.Read.remaining g.W.Write.contents c.args.slots.now c.args.index c.index-slots-index.result c.take.result c.requires (sym c.take.ensures.value))

pub offset_bounds-slots-index : goal.offset_bounds-slots-index
offset_bounds-slots-index g c = search scaled_Fits
