use borrow.Author.Rules.{scaled_Fits}
use Rattle.std.proofs.Common.{refl, arith}
use Rattle.wire.proofs.Changing.{by_done, done_there, done_to_ended, done_to_none}
use Rattle.wire.proofs.slots.settle_slot.Goals as goal
use Rattle.wire.proofs.slots.settle_slot.Goals.{in_default-via-in-Some+else-is_none, in_default-via-in_default}

pub returns-in-Some-clause-done : goal.returns-in-Some-clause-done
returns-in-Some-clause-done g c =
    done_there _ _ _ c.args.slots.now c.args.index c.index-slots-index.result c.requires c.in-Some.seat c.in-Some.is c.end.result c.end.ensures c.if-is_none.ensures c.give_back.new.self
    c.give_back.ensures.gathers (c.give_back.ensures.kept, c.give_back.ensures.back, c.give_back.ensures.health)

pub returns-in-Some-clause-changes : goal.returns-in-Some-clause-changes
returns-in-Some-clause-changes g c = by_done _ _ _ _ _ _ c.args.index c.requires (returns-in-Some-clause-done g c)

pub returns-in_default-clause-done : goal.returns-in_default-clause-done
returns-in_default-clause-done g c =
    elim c.in_default.branch [
      | in_default-via-in-Some+else-is_none w ↦
          done_to_ended _ _ _ c.args.slots.now c.args.index c.index-slots-index.result c.requires w.in-Some.seat w.in-Some.is w.end.result w.end.ensures w.if-is_none.ensures c.in_default.slots w.slots-is refl
      | in_default-via-in_default w ↦ done_to_none _ _ _ c.args.slots.now c.in_default.slots c.args.index c.index-slots-index.result c.requires w.in_default.is w.slots-is refl
    ]

pub returns-in_default-clause-changes : goal.returns-in_default-clause-changes
returns-in_default-clause-changes g c = by_done _ _ _ _ _ _ c.args.index c.requires (returns-in_default-clause-done g c)

pub offset_bounds-slots-index : goal.offset_bounds-slots-index
offset_bounds-slots-index g c = search scaled_Fits

pub bounds-slots-index : goal.bounds-slots-index
bounds-slots-index g c = grind arith
