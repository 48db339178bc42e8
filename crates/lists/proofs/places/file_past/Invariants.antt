use Rattle.std.proofs.Common.{Ok}
use Rattle.boxes.specs.State.{State}
use Rattle.boxes.specs.Bound.{StaysBy}
use Rattle.lists.specs.Asking.{Meant}
use Rattle.lists.proofs.NextFiles.{IsPast}
use Rattle.lists.proofs.places.file_past.Given as goal

abbrev pub invariant-boxes : goal.invariant-boxes
invariant-boxes g l = record {
  stays : StaysBy {T = Unit {0}} g.K.Keeper l.fn.keeper l.keeper (Ok tt);
  past : (s : State) → Meant g.K.Keeper l.fn.keeper l.keeper s → IsPast s l.in_box l.after.items;
}
