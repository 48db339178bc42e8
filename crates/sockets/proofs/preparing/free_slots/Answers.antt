use Rattle.std.proofs.Common.{[], ◌≡◌, ◌∷◌, None, ap, length, subst, sym, arith}
use Rattle.std.proofs.lemmas.List.{length-append}
use Rattle.wire.specs.Crowds.{slot_at}
use Rattle.sockets.proofs.Freed.{free_more}
use Rattle.sockets.proofs.preparing.free_slots.Goals as goal

pub slots-preserved : goal.slots-preserved
slots-preserved g c = (
  λ p. subst (λ l. slot_at l p ≡ None) (sym c.in_ok-push.ensures.items) (free_more c.slots.slots.items c.slots.invariant.0 p),
  omega (arith, ap length c.in_ok-push.ensures.items, length-append c.slots.slots.items (None ∷ []), c.slots.invariant.1),
)

pub returns-clause-room : goal.returns-clause-room
returns-clause-room g c = grind arith
