use Rattle.std.proofs.Common.{◌≡◌, ℕ, ◌+◌, ◌-◌, ◌≤◌, List, Ok, length, take}
use Rattle.boxes.specs.Rows.{numbered}
use Rattle.boxes.specs.Sound.{IsSound}
use Rattle.boxes.specs.State.{State}
use Rattle.boxes.specs.Bound.{StaysBy}
use Rattle.boxes.specs.Keeping.{KeepsStaged}
use Rattle.wire.specs.Sending.{Sends}
use Rattle.lists.specs.Lists.{AreLines}
use Rattle.lists.specs.Manifests.{IsReceiptLine}
use Rattle.lists.specs.declared.list_fault.ListFault.{ListFault}
use Rattle.lists.proofs.manifests.send_receipts.Given as goal

abbrev pub decreases-portions : goal.decreases-portions
decreases-portions g l = l.end - l.from

abbrev pub invariant-portions : goal.invariant-portions
invariant-portions g l = record {
  from : 1 ≤ l.from;
  stays : StaysBy {T = Unit {0}} g.K.Keeper l.fn.keeper l.keeper (Ok tt);
  staged : KeepsStaged g.K.Keeper.stages l.fn.keeper l.keeper;
  count : l.out.faults ≡ l.fn.out.faults;
  sent : (s : State) → g.K.Keeper.means l.fn.keeper s → IsSound s → g.K.Keeper.is_honest l.keeper → l.end ≡ length s.receipts + 1
      → (text : List ℕ) × AreLines IsReceiptLine (take (l.from - 1) (numbered 1 s.receipts)) text
      × Sends {T = Unit {0}} {E = ListFault} text (g.W.Write.contents l.fn.out.inner) (g.W.Write.contents l.out.inner) (Ok tt);
}
