use borrow.Author.Rules.{scaled_Fits}
use Rattle.std.proofs.Common.{refl}
use Rattle.std.specs.Prelude.{None}
use Rattle.wire.proofs.Changing.{by_comes}
use Rattle.wire.proofs.slots.open_slot.Goals as goal

pub returns-in-Some-clause-opened : goal.returns-in-Some-clause-opened
returns-in-Some-clause-opened g c = (
  c.in-Some.ensures.some.0,
  c.in-Some.ensures.some.1,
  refl,
  by_comes g.R.Read.remaining g.W.Write.contents c.args.slots.now c.in-Some.index None c.args.seat c.in-Some.ensures.some.0 c.in-Some.ensures.some.1 (record { none = c.requires.none; open_still = c.requires.open_still; unwaited = c.requires.unwaited; unbegun = c.requires.unbegun }),
)

pub bounds-slots-index : goal.bounds-slots-index
bounds-slots-index g c = c.in-Some.ensures.some.0

pub returns-in-None-clause-full : goal.returns-in-None-clause-full
returns-in-None-clause-full g c = (refl, refl, c.in-None.ensures.none)

pub offset_bounds-slots-index : goal.offset_bounds-slots-index
offset_bounds-slots-index g c = let within = c.in-Some.ensures.some.0 in search scaled_Fits
