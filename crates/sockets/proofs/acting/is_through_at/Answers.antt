use Rattle.std.proofs.Common.{None, ◌∙◌, sym, arith}
use Rattle.std.proofs.lemmas.Bool.{both_ways}
use Rattle.std.proofs.lemmas.List.{get_or_default}
use Rattle.sockets.proofs.Slotted.{if_there}
use Rattle.sockets.proofs.acting.is_through_at.Goals as goal

pub returns-in-Some-clause-told : goal.returns-in-Some-clause-told
returns-in-Some-clause-told g c through =
    let at = get_or_default c.args.slots.now c.args.index None c.index-slots-index.result c.requires ∙ (sym c.index-slots-index.is ∙ c.in-Some.is) in
    if_there _ c.in-Some.seat _ at (c.is_through.ensures.0 through)

pub returns-in-Some-clause-busy : goal.returns-in-Some-clause-busy
returns-in-Some-clause-busy g c = λ no. (
  c.in-Some.seat,
  get_or_default c.args.slots.now c.args.index None c.index-slots-index.result c.requires ∙ (sym c.index-slots-index.is ∙ c.in-Some.is),
  λ through. both_ways c.is_through.result no (c.is_through.ensures.1 through),
)

pub bounds-slots-index : goal.bounds-slots-index
bounds-slots-index g c = grind arith

pub offset_bounds-slots-index : goal.offset_bounds-slots-index
offset_bounds-slots-index g c = grind arith

pub returns-in-None-clause-busy : goal.returns-in-None-clause-busy
returns-in-None-clause-busy g c = grind arith

pub returns-in-None-clause-told : goal.returns-in-None-clause-told
returns-in-None-clause-told g c = grind arith
