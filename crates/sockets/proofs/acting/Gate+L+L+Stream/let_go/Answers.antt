use Rattle.std.proofs.Common.{inl, inr, refl, arith}
use Rattle.sockets.proofs.Freed.{no_more}
use Rattle.sockets.proofs.Freed.{sent_free, sent_length, sent_may_go, sent_waits}
use Rattle.sockets.proofs.Moved.{moves_none, moves_still, moves_then}
use Rattle.sockets.proofs.acting.Gate+L+L+Stream.let_go.Goals as goal
use Rattle.sockets.proofs.acting.Gate+L+L+Stream.let_go.Goals.{then-not-may_go-via-then-not-may_go, then-not-may_go-via-else-not-may_go+then-not-is_through_at}

pub returns-then-index-slots-clause-moves : goal.returns-then-index-slots-clause-moves
returns-then-index-slots-clause-moves g c = moves_none _ _ _ _ c.args.self.now c.args.slots.now

pub returns-then-index-slots-clause-acts : goal.returns-then-index-slots-clause-acts
returns-then-index-slots-clause-acts g c = (refl, refl, inl (omega (arith, c.if-index-slots.true)))

pub returns-then-not-may_go-clause-moves : goal.returns-then-not-may_go-clause-moves
returns-then-not-may_go-clause-moves g c = moves_none _ _ _ _ c.args.self.now c.args.slots.now

pub returns-then-not-may_go-clause-acts : goal.returns-then-not-may_go-clause-acts
returns-then-not-may_go-clause-acts g c = elim c.then-not-may_go.branch [
  | then-not-may_go-via-then-not-may_go w ↦ (refl, refl, inr (inr (no_more c.args.self.now.gone c.may_go.result c.may_go.ensures w.if-not-may_go.true)))
  | then-not-may_go-via-else-not-may_go+then-not-is_through_at w ↦ (refl, refl, inr (inl (w.is_through_at.ensures.busy w.if-not-is_through_at.true)))
]

pub is_through_at-requires : goal.is_through_at-requires
is_through_at-requires g c = omega (arith, c.if-index-slots.false)

pub send_slot-requires : goal.send_slot-requires
send_slot-requires g c = omega (arith, c.if-index-slots.false)

pub free-requires : goal.free-requires
free-requires g c =
    let done = c.send_slot.ensures.done in
    record {
      within = omega (arith, c.if-index-slots.false, sent_length _ _ _ _ c.args.slots.now c.send_slot.new.slots c.args.index done);
      counted = c.may_go.ensures.0 c.if-not-may_go.false;
      may = sent_may_go _ _ _ _ c.args.slots.now c.send_slot.new.slots c.args.index done c.in-Sent.is (omega (arith, c.if-index-slots.false)) (c.is_through_at.ensures.told c.if-not-is_through_at.false);
    }

pub returns-in-Waits-clause-moves : goal.returns-in-Waits-clause-moves
returns-in-Waits-clause-moves g c = moves_still _ _ _ _ c.args.self.now c.args.slots.now c.send_slot.new.slots c.send_slot.ensures.changes

pub returns-in-Waits-clause-acts : goal.returns-in-Waits-clause-acts
returns-in-Waits-clause-acts g c = (refl, refl, sent_waits _ _ c.send_slot.result c.args.slots.now c.send_slot.new.slots c.args.index c.in-Waits.is c.send_slot.ensures.done)

pub returns-in-Sent : goal.returns-in-Sent
returns-in-Sent g c =
    let sent = moves_still _ _ _ _ c.args.self.now c.args.slots.now c.send_slot.new.slots c.send_slot.ensures.changes in
    record {
      moves = moves_then _ _ _ _ c.args.self.now c.args.self.now c.free.new.self c.args.slots.now c.send_slot.new.slots c.free.new.slots sent c.free.ensures.moves;
      acts = (refl, sent_free _ _ _ _ c.args.slots.now c.send_slot.new.slots c.args.index c.send_slot.ensures.done c.free.new.slots c.free.ensures.freed);
      stays = c.free.ensures.stays;
    }
