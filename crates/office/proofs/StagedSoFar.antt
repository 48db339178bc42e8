-- How far a whole body was staged.
use Rattle.std.proofs.Common.{◌≡◌, ◌++◌, ℕ, List}
use Rattle.boxes.specs.declared.keep.Keeper.{Ghosts}

-- a prefix of the bytes is staged, and this is the rest
pub record HasStagedFront {K : Type 0} (k : Ghosts K) (keeper : K) (bytes rest : List ℕ) : Type 0 where
  pub given : List ℕ
  pub staged : k.stages keeper given
  pub whole : given ++ rest ≡ bytes
