use Rattle.std.proofs.Common.{◌≡◌, ℕ, None, length}
use Rattle.wire.specs.Crowds.{slot_at}
use Rattle.sockets.proofs.preparing.free_slots.Given as goal

abbrev pub invariant-slots : goal.invariant-slots
invariant-slots g l = ((p : ℕ) → slot_at l.slots.items p ≡ None) × (length l.slots.items ≡ l._index)
