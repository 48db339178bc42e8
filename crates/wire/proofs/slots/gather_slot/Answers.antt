use borrow.Author.Rules.{scaled_Fits}
use Rattle.std.proofs.Common.{refl, arith}
use Rattle.wire.proofs.Changing.{by_done, by_kept, done_there, done_to_ended, done_to_none}
use Rattle.wire.proofs.slots.gather_slot.Goals as goal

pub returns-in-Some-clause-done : goal.returns-in-Some-clause-done
returns-in-Some-clause-done g c =
    done_there _ _ _ c.args.slots.now c.args.index c.index-slots-index.result c.requires c.in-Some.seat c.in-Some.is c.end.result c.end.ensures c.if-is_none.ensures c.gather.new.self
    c.gather.ensures.gathers (record { standing = c.gather.ensures.standing; told = c.gather.ensures.told; most = c.gather.ensures.most; room = c.gather.ensures.room })

pub returns-in-Some-clause-changes : goal.returns-in-Some-clause-changes
returns-in-Some-clause-changes g c = by_done _ _ _ _ _ _ c.args.index c.requires (returns-in-Some-clause-done g c)

pub returns-in_default-clause-done : goal.returns-in_default-clause-done
returns-in_default-clause-done g c =
    done_to_ended _ _ _ c.args.slots.now c.args.index c.index-slots-index.result c.requires c.in-Some.seat c.in-Some.is c.end.result c.end.ensures c.if-is_none.ensures _ refl refl

pub returns-in_default-clause-changes : goal.returns-in_default-clause-changes
returns-in_default-clause-changes g c = by_done _ _ _ _ _ _ c.args.index c.requires (returns-in_default-clause-done g c)

pub returns-in_default-2-clause-done : goal.returns-in_default-2-clause-done
returns-in_default-2-clause-done g c = done_to_none _ _ _ c.args.slots.now _ c.args.index c.index-slots-index.result c.requires c.in_default.is refl refl

pub returns-in_default-2-clause-changes : goal.returns-in_default-2-clause-changes
returns-in_default-2-clause-changes g c = by_kept _ _ c.args.slots.now c.args.index c.index-slots-index.result

pub offset_bounds-slots-index : goal.offset_bounds-slots-index
offset_bounds-slots-index g c = search scaled_Fits

pub bounds-slots-index : goal.bounds-slots-index
bounds-slots-index g c = grind arith
