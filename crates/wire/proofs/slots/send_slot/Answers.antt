use borrow.Author.Rules.{scaled_Fits}
use Rattle.std.proofs.Common.{refl, arith}
use Rattle.wire.proofs.Changing.{by_kept, by_sent, sent_there, sent_to_none}
use Rattle.wire.proofs.slots.send_slot.Goals as goal

pub returns-in-Some-clause-done : goal.returns-in-Some-clause-done
returns-in-Some-clause-done g c =
    sent_there _ _ _ c.args.slots.now c.args.index c.index-slots-index.result c.requires c.in-Some.seat c.send.new.self c.in-Some.is c.send.ensures.sends
    (record { sent = c.send.ensures.sent; failed = c.send.ensures.failed; takes = c.send.ensures.takes })

pub returns-in-Some-clause-changes : goal.returns-in-Some-clause-changes
returns-in-Some-clause-changes g c = by_sent _ _ _ _ _ _ c.args.index c.requires (returns-in-Some-clause-done g c)

pub returns-in-None-clause-done : goal.returns-in-None-clause-done
returns-in-None-clause-done g c = sent_to_none _ _ _ c.args.slots.now _ c.args.index c.index-slots-index.result c.requires c.in-None.is refl refl

pub returns-in-None-clause-changes : goal.returns-in-None-clause-changes
returns-in-None-clause-changes g c = by_kept _ _ c.args.slots.now c.args.index c.index-slots-index.result

pub offset_bounds-slots-index : goal.offset_bounds-slots-index
offset_bounds-slots-index g c = search scaled_Fits

pub bounds-slots-index : goal.bounds-slots-index
bounds-slots-index g c = grind arith
