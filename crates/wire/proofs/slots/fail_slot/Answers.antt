use borrow.Author.Rules.{scaled_Fits}
use Rattle.std.proofs.Common.{refl, arith}
use Rattle.wire.proofs.Changing.{by_done, by_kept, done_there, done_to_ended, done_to_none}
use Rattle.wire.proofs.slots.fail_slot.Goals as goal

pub returns-then-is_none-clause-done : goal.returns-then-is_none-clause-done
returns-then-is_none-clause-done g c =
    done_there _ _ _ c.args.slots.now c.args.index c.index-slots-index.result c.requires c.in-Some.seat c.in-Some.is c.end.result c.end.ensures c.if-is_none.ensures c.fail.new.self
    c.fail.ensures.gathers (c.fail.ensures.standing, c.fail.ensures.ahead, c.fail.ensures.failed, c.fail.ensures.first)

pub returns-then-is_none-clause-changes : goal.returns-then-is_none-clause-changes
returns-then-is_none-clause-changes g c = by_done _ _ _ _ _ _ c.args.index c.requires (returns-then-is_none-clause-done g c)

pub returns-else-is_none-clause-done : goal.returns-else-is_none-clause-done
returns-else-is_none-clause-done g c =
    done_to_ended _ _ _ c.args.slots.now c.args.index c.index-slots-index.result c.requires c.in-Some.seat c.in-Some.is c.end.result c.end.ensures c.if-is_none.ensures _ refl tt

pub returns-else-is_none-clause-changes : goal.returns-else-is_none-clause-changes
returns-else-is_none-clause-changes g c = by_done _ _ _ _ _ _ c.args.index c.requires (returns-else-is_none-clause-done g c)

pub returns-in_default-clause-done : goal.returns-in_default-clause-done
returns-in_default-clause-done g c = done_to_none _ _ _ c.args.slots.now _ c.args.index c.index-slots-index.result c.requires c.in_default.is refl tt

pub returns-in_default-clause-changes : goal.returns-in_default-clause-changes
returns-in_default-clause-changes g c = by_kept _ _ c.args.slots.now c.args.index c.index-slots-index.result

pub offset_bounds-slots-index : goal.offset_bounds-slots-index
offset_bounds-slots-index g c = search scaled_Fits

pub bounds-slots-index : goal.bounds-slots-index
bounds-slots-index g c = grind arith
