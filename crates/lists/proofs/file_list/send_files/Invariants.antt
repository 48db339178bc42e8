use Rattle.std.proofs.Common.{◌≡◌, Ok}
use Rattle.boxes.specs.State.{State}
use Rattle.boxes.specs.Bound.{StaysBy}
use Rattle.lists.specs.Asking.{Meant}
use Rattle.lists.specs.Files.{IsFileLine}
use Rattle.lists.proofs.Walked.{Walked}
use Rattle.lists.specs.Places.{place_in}
use Rattle.lists.proofs.file_list.send_files.Given as goal

abbrev pub invariant-files : goal.invariant-files
invariant-files g l = record {
  stays : StaysBy {T = Unit {0}} g.K.Keeper l.fn.keeper l.keeper (Ok tt);
  count : l.out.faults ≡ l.fn.out.faults;
  walked : (s : State) → Meant g.K.Keeper l.fn.keeper l.keeper s
      → Walked s.files (IsFileLine s) (place_in l.after) (g.W.Write.contents l.fn.out.inner) (g.W.Write.contents l.out.inner);
}
