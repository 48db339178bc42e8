use Rattle.std.proofs.Common.{None, ◌∙◌, sym, refl, arith}
use Rattle.sockets.proofs.Slotted.{if_there, past_free, there_free}
use Rattle.sockets.proofs.held.seat_at.Goals as goal
use Rattle.sockets.proofs.held.seat_at.Goals.{in_default-via-in_default, in_default-via-in-Some+in_default}

pub returns-in-Some-Some : goal.returns-in-Some-Some
returns-in-Some-Some g c = if_there _ c.in-Some-Some.seat _ (sym (c.in-Some-Some.ensures.lookup.4 (omega (arith)) None) ∙ c.in-Some-Some.field-0-is) refl

pub returns-in_default : goal.returns-in_default
returns-in_default g c = elim c.in_default.branch [
  | in_default-via-in_default w ↦ past_free (λ b. b.now) c.args.slots.now c.args.index c.get.result _ c.get.ensures.lookup w.in_default.is
  | in_default-via-in-Some+in_default w ↦ there_free (λ b. b.now) c.args.slots.now c.args.index c.get.result w.in_default.t4-1-own.given.0.0 _ c.get.ensures.lookup w.in_default.t4-1-own.given.1 w.in_default.enum_told_along-1-own.given.1
]
