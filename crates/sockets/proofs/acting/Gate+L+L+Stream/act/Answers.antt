use Rattle.std.proofs.Common.{refl, arith}
use Rattle.sockets.proofs.Moved.{moves_called, moves_none, moves_still}
use Rattle.sockets.proofs.acting.Gate+L+L+Stream.act.Goals as goal

pub returns-in-Pass-clause-moves : goal.returns-in-Pass-clause-moves
returns-in-Pass-clause-moves g c = moves_none _ _ _ _ c.args.self.now c.args.slots.now

pub returns-in-Turn-clause-moves : goal.returns-in-Turn-clause-moves
returns-in-Turn-clause-moves g c = moves_none _ _ _ _ c.args.self.now c.args.slots.now

pub returns-in-Over-clause-moves : goal.returns-in-Over-clause-moves
returns-in-Over-clause-moves g c = moves_none _ _ _ _ c.args.self.now c.args.slots.now

pub returns-in-Pass-clause-acts : goal.returns-in-Pass-clause-acts
returns-in-Pass-clause-acts g c = rw c.in-Pass.is (refl, (refl, refl, refl))

pub returns-in-Turn-clause-acts : goal.returns-in-Turn-clause-acts
returns-in-Turn-clause-acts g c = rw c.in-Turn.is (refl, (refl, refl, refl))

pub returns-in-Over-clause-acts : goal.returns-in-Over-clause-acts
returns-in-Over-clause-acts g c = rw c.in-Over.is (refl, (refl, refl, refl))

pub returns-in-Gather-clause-moves : goal.returns-in-Gather-clause-moves
returns-in-Gather-clause-moves g c = moves_still _ _ _ _ c.args.self.now c.args.slots.now c.gather.new.slots c.gather.ensures.changes

pub returns-in-Settle-clause-moves : goal.returns-in-Settle-clause-moves
returns-in-Settle-clause-moves g c = moves_still _ _ _ _ c.args.self.now c.args.slots.now c.settle.new.slots c.settle.ensures.changes

pub returns-in-Fail-clause-moves : goal.returns-in-Fail-clause-moves
returns-in-Fail-clause-moves g c = moves_still _ _ _ _ c.args.self.now c.args.slots.now c.fail.new.slots c.fail.ensures.changes

pub returns-in-Send-clause-moves : goal.returns-in-Send-clause-moves
returns-in-Send-clause-moves g c = moves_still _ _ _ _ c.args.self.now c.args.slots.now c.send.new.slots c.send.ensures.changes

pub returns-in-Accept-clause-moves : goal.returns-in-Accept-clause-moves
returns-in-Accept-clause-moves g c = moves_called _ _ _ _ c.args.self.now c.accept.new.self c.args.slots.now c.accept.ensures.passes

pub returns-in-Gather-clause-acts : goal.returns-in-Gather-clause-acts
returns-in-Gather-clause-acts g c = rw c.in-Gather.is (c.gather.ensures.acts c.args.self.now.gone, (refl, refl, refl))

pub returns-in-Settle-clause-acts : goal.returns-in-Settle-clause-acts
returns-in-Settle-clause-acts g c = rw c.in-Settle.is (c.settle.ensures.acts c.args.self.now.gone, (refl, refl, refl))

pub returns-in-Fail-clause-acts : goal.returns-in-Fail-clause-acts
returns-in-Fail-clause-acts g c = rw c.in-Fail.is (c.fail.ensures.acts c.args.self.now.gone, (refl, refl, refl))

pub returns-in-Send-clause-acts : goal.returns-in-Send-clause-acts
returns-in-Send-clause-acts g c = rw c.in-Send.is (c.send.ensures.acts c.args.self.now.gone, (refl, refl, refl))

pub returns-in-Free-clause-acts : goal.returns-in-Free-clause-acts
returns-in-Free-clause-acts g c = rw c.in-Free.is (c.let_go.ensures.acts, c.let_go.ensures.stays)

pub returns-in-Accept-clause-acts : goal.returns-in-Accept-clause-acts
returns-in-Accept-clause-acts g c = rw c.in-Accept.is (c.accept.ensures.told, refl)

pub returns-in-LetIn-clause-acts : goal.returns-in-LetIn-clause-acts
returns-in-LetIn-clause-acts g c = rw c.in-LetIn.is c.let_in.ensures.told
