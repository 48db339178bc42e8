-- A change that the rules allow with the staged bytes is also allowed without a condition on what is staged (`MayChange`).
use Rattle.std.proofs.Common.{ℕ, List}
use Rattle.boxes.specs.declared.change.Change.{Change}
use Rattle.boxes.specs.declared.change.Change.TheVariants as change
use Rattle.boxes.specs.Changes.{IsChangeOf, MayChange}
use Rattle.boxes.specs.State.{State}

pub may_change : (Stages : List ℕ → Type 0) (s after : State) (it : Change) → IsChangeOf Stages s it after → MayChange s it after
may_change Stages s after (change.SetFile f) (bytes, staged, set) = (bytes, tt, set)
may_change Stages s after (change.Desk c) h = h
