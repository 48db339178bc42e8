use Rattle.std.proofs.Common.{Ok, map, List, ℕ}
use Rattle.sigtext.specs.Bytes.{bytes_cmp}
use Rattle.boxes.specs.State.{State}
use Rattle.boxes.specs.Bound.{StaysBy}
use Rattle.boxes.specs.Next.{IsLimit}
use Rattle.lists.specs.Asking.{Meant}
use Rattle.lists.specs.Keys.{IsLast}
use Rattle.lists.proofs.LimitedBoxes.{Told}
use Rattle.lists.proofs.key_list.boxes_of.Given as goal

abbrev pub invariant-boxes : goal.invariant-boxes
invariant-boxes g l = record {
  stays : StaysBy {T = Unit {0}} g.K.Keeper l.fn.keeper l.keeper (Ok tt);
  told : (s : State) → Meant g.K.Keeper l.fn.keeper l.keeper s → (last : List ℕ) → IsLast (map (λ b. b.items) l.boxes.items) last
      → Told bytes_cmp (IsLimit s l.id) (map (λ b. b.items) l.boxes.items) last;
}
