-- Files that were just opened.
use Rattle.std.proofs.Common.{◌≡◌, ◌∷◌, ⊎_elim, subst, ℕ, Bool, List, []}
use Rattle.sqlite_disk.specs.Events.{Event, replay, settled}
use Rattle.sqlite_disk.specs.History.{MayLeave}

-- a crash leaves what the events made of the file
abbrev Leaves : Bool → List ℕ → List Event → List ℕ → Type 0
Leaves mixes start events left = let now = replay start events in MayLeave mixes now.seen now.synced now.steps left

-- of a file that was settled, and nothing more, a crash leaves what it held
pub settled_only : (mixes : Bool) (start : List ℕ) (key : ℕ) (events : List Event) → events ≡ settled key ∷ [] → (left : List ℕ)
    → (let now = replay start events in MayLeave mixes now.seen now.synced now.steps left) → left ≡ start
settled_only mixes start key events is left may =
    ⊎_elim (λ (same : left ≡ start). same) (λ (same : left ≡ start). same) (subst (λ (events : List Event). Leaves mixes start events left) is may)
