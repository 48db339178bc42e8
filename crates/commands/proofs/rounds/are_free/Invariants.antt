use Rattle.std.proofs.Common.{◌≡◌, ◌<◌, ℕ, None}
use Rattle.wire.specs.Crowds.{slot_at}
use Rattle.commands.proofs.rounds.are_free.Given as goal

abbrev pub invariant-slots : goal.invariant-slots
invariant-slots g l = (p : ℕ) → p < l.index → slot_at l.slots p ≡ None
