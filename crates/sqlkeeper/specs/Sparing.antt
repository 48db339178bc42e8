-- What a fault leaves of an office file.
use Rattle.std.specs.Prelude.{◌⊎◌}
use Rattle.sqlite_trees.specs.Tree.{Trees}
use Rattle.sqlite.specs.State.{State, HasCleanDisk}
use Rattle.boxes.specs.State.{State as Office}
use Rattle.sqltables.specs.Kept.{RowsKeep}

-- After a fault a crash leaves what it could leave before, or an office like this. No fault of the disk is forgotten.
pub record Spares (old new : State) (Like : Office → Type 0) : Type 0 where
  pub honest : HasCleanDisk new → HasCleanDisk old
  pub crash : HasCleanDisk new → (trees : Trees) → new.may_leave trees → old.may_leave trees ⊎ ((office : Office) × Like office × RowsKeep trees office)
