-- What a crash may leave of an office file.
use Rattle.std.proofs.Common.{inr}
use Rattle.sqlite_disk.specs.declared.Disk as disk
use Rattle.sqlite.specs.State.{State, HasCleanDisk}
use Rattle.sqlite.specs.Tree.{Trees}
use Rattle.boxes.specs.State.{State as Office}
use Rattle.sqltables.specs.Kept.{LeavesStates, RowsKeep}
use Rattle.dropoffice.specs.Leaving.{IsLeftOf, MayCrashTo}
use Rattle.dropoffice.specs.declared.left.Left.{Left}
use Rattle.dropoffice.specs.declared.left.Left.TheVariants as left

-- what a crash leaves is also like this
pub crash_more : {F D : Type 0} {g : disk.Ghosts D} (rest : Left F D g) (Like More : Office → Type 0) → ((t : Office) → Like t → More t) → MayCrashTo rest Like → MayCrashTo rest More
crash_more (left.Unopened start) Like More so crash = absurd crash
crash_more left.Lost Like More so crash = absurd crash
crash_more (left.Refused refused) Like More so crash = absurd crash
crash_more (left.Looked conn) Like More so crash = λ trees may. let (t, keep, like) = crash trees may in (t, keep, so t like)
crash_more (left.Closed files) Like More so crash = λ image may. let (t, keep, like) = crash image may in (t, keep, so t like)
crash_more (left.Unclosed store) Like More so crash = λ trees may. let (t, keep, like) = crash trees may in (t, keep, so t like)

-- what a crash of a connection leaves
pub left_of : (now : State) (s : Office) → HasCleanDisk now → LeavesStates now → (trees : Trees) → now.may_leave trees → (t : Office) × RowsKeep trees t × IsLeftOf now s t
left_of now s clean whole trees may = let (t, keep) = whole clean trees may in (t, keep, inr (record { trees = trees; left = may; keep = keep }))
