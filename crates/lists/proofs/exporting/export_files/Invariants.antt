use Rattle.std.proofs.Common.{◌≡◌, Ok}
use Rattle.boxes.specs.State.{State}
use Rattle.boxes.specs.Bound.{StaysBy}
use Rattle.lists.specs.Asking.{Meant}
use Rattle.lists.specs.Places.{place_in}
use Rattle.lists.specs.Exports.{files_in, IsIn, named_box, shown}
use Rattle.lists.proofs.Walks.{Walked}
use Rattle.lists.proofs.exporting.export_files.Given as goal

abbrev pub invariant-files : goal.invariant-files
invariant-files g l = record {
  stays : StaysBy {T = Unit {0}} g.K.Keeper l.fn.keeper l.keeper (Ok tt);
  files_count : l.files.faults ≡ l.fn.files.faults;
  sums_count : l.sums.faults ≡ l.fn.sums.faults;
  inside : IsIn (named_box l.in_box) (place_in l.after);
  walked : (s : State) → Meant g.K.Keeper l.fn.keeper l.keeper s
      → Walked s (files_in (named_box l.in_box) s) (place_in l.after)
      (shown (g.F.Folder.holds l.fn.folder) (g.W.Write.contents l.fn.files.inner) (g.V.Write.contents l.fn.sums.inner))
      (shown (g.F.Folder.holds l.folder) (g.W.Write.contents l.files.inner) (g.V.Write.contents l.sums.inner));
}
