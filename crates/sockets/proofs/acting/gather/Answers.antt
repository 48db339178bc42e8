use Rattle.std.proofs.Common.{refl, arith}
use Rattle.sockets.proofs.Told.{reads_so}
use Rattle.wire.specs.Crowds.{same}
use Rattle.sockets.proofs.acting.gather.Goals as goal

pub returns-then-index-slots-clause-changes : goal.returns-then-index-slots-clause-changes
returns-then-index-slots-clause-changes g c = same

pub returns-clause-acts : goal.returns-clause-acts
returns-clause-acts g c gone = (
  refl,
  reads_so _ _ c.gather_slot-gathering.result _ _ _ _ c.ahead_len-before.result c.ahead_len.result c.args.slots.now c.gather_slot-gathering.new.slots c.args.index (omega (arith, c.if-index-slots.false))
      refl c.gather_slot-gathering.ensures.done c.ahead_len-before.ensures c.ahead_len.ensures (λ full. omega (arith, c.is_as_much.ensures.0 full), λ as_many. c.is_as_much.ensures.1 (omega (arith, as_many))),
)
