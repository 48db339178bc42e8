use Rattle.wire.specs.Crowds.{NoneIsFree}
use Rattle.wire.proofs.slots.first_free.Given as goal

abbrev pub invariant-slots : goal.invariant-slots
invariant-slots g l = NoneIsFree l.slots l.index
