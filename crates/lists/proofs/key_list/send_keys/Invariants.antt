use Rattle.std.proofs.Common.{◌≡◌, Ok}
use Rattle.boxes.specs.State.{State}
use Rattle.boxes.specs.Bound.{StaysBy}
use Rattle.lists.specs.Asking.{Meant}
use Rattle.lists.specs.Keys.{IsKeyLine}
use Rattle.lists.proofs.Walked.{Walked}
use Rattle.lists.proofs.key_list.send_keys.Given as goal

abbrev pub invariant-keys : goal.invariant-keys
invariant-keys g l = record {
  stays : StaysBy {T = Unit {0}} g.K.Keeper l.fn.keeper l.keeper (Ok tt);
  count : l.out.faults ≡ l.fn.out.faults;
  walked : (s : State) → Meant g.K.Keeper l.fn.keeper l.keeper s
      → Walked s.keys (IsKeyLine s) l.after.items (g.W.Write.contents l.fn.out.inner) (g.W.Write.contents l.out.inner);
}
