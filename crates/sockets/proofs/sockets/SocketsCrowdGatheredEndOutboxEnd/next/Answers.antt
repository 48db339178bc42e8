use Rattle.std.proofs.Common.{◌∙◌, length, refl, arith}
use Rattle.std.proofs.lemmas.List.{length-append}
use Rattle.sockets.proofs.Gave.{gave_one, gave_still}
use Rattle.sockets.proofs.Moved.{moves_met, moves_none, moves_then}
use Rattle.sockets.proofs.sockets.SocketsCrowdGatheredEndOutboxEnd.next.Goals as goal

pub actions-init : goal.actions-init
actions-init g c = (moves_none _ _ _ _ c.args.self.now.gate c.args.slots.now, refl)

pub returns-in-Turn-clause-changes : goal.returns-in-Turn-clause-changes
returns-in-Turn-clause-changes g c came gone met =
    let x = moves_met _ _ _ _ _ _ _ c.args.self.now.gate c.actions.self.gate c.args.slots.now c.actions.slots c.actions.invariant.0 came gone met in (
      x.0,
      x.1,
      x.2,
      x.3,
      λ numbers given among gave.
          gave_one _ _ c.args.slots.now c.actions.slots x.0 x.1 (length came) numbers x.3 c.in-Turn.due.index _ _ _ _ c.in-Turn.due.most given among (c.may_turn_in.ensures.is_open c.if-may_turn_in.true) met.counted (omega (arith, met.counted, x.2.counted, length-append came x.0))
          (omega (arith, c.if-self-gt0.true, c.actions.invariant.1)) gave,
    )

pub returns-in-Turn-clause-within : goal.returns-in-Turn-clause-within
returns-in-Turn-clause-within g c = (c.may_turn_in.ensures.is_open c.if-may_turn_in.true).0

pub returns-in-Turn-clause-due : goal.returns-in-Turn-clause-due
returns-in-Turn-clause-due g c = c.may_turn_in.ensures.is_open c.if-may_turn_in.true

pub returns-in-Turn-clause-settled : goal.returns-in-Turn-clause-settled
returns-in-Turn-clause-settled g c = c.may_turn_in.ensures.settled c.if-may_turn_in.true

pub returns-in-Turn-3-clause-changes : goal.returns-in-Turn-3-clause-changes
returns-in-Turn-3-clause-changes g c came gone met =
    let x = moves_met _ _ _ _ _ _ _ c.args.self.now.gate c.actions.self.gate c.args.slots.now c.actions.slots c.actions.invariant.0 came gone met in (
      x.0,
      x.1,
      x.2,
      x.3,
      λ numbers given among gave. gave_still _ _ _ _ given (omega (arith, met.counted, x.2.counted, length-append came x.0)) c.actions.invariant.1 gave,
    )

pub returns-in-Over-clause-changes : goal.returns-in-Over-clause-changes
returns-in-Over-clause-changes g c came gone met =
    let x = moves_met _ _ _ _ _ _ _ c.args.self.now.gate c.actions.self.gate c.args.slots.now c.actions.slots c.actions.invariant.0 came gone met in (
      x.0,
      x.1,
      x.2,
      x.3,
      λ numbers given among gave. gave_still _ _ _ _ given (omega (arith, met.counted, x.2.counted, length-append came x.0)) c.actions.invariant.1 gave,
    )

pub actions-preserved : goal.actions-preserved
actions-preserved g c = (
  moves_then _ _ _ _ c.args.self.now.gate c.actions.self.gate c.act-outcome.new.self c.args.slots.now c.actions.slots c.act-outcome.new.slots c.actions.invariant.0 c.act-outcome.ensures.moves,
  c.actions.invariant.1,
)

pub returns-clause-changes : goal.returns-clause-changes
returns-clause-changes g c came gone met =
    let x = moves_met _ _ _ _ _ _ _ c.args.self.now.gate c.actions.self.gate c.args.slots.now c.actions.slots c.actions.invariant.0 came gone met in (
      x.0,
      x.1,
      x.2,
      x.3,
      λ numbers given among gave. gave_still _ _ _ _ given (omega (arith, met.counted, x.2.counted, length-append came x.0)) c.actions.invariant.1 gave,
    )
