-- The errors after which a writer may go on.
use Rattle.std.specs.Prelude.{◌≡◌, ◌⊎◌}
use Rattle.std.specs.declared.io.ErrorKind.{ErrorKind}
use Rattle.std.specs.declared.io.ErrorKind.TheVariants as kinds

-- a write may succeed later after this kind of error
abbrev pub MayPass : ErrorKind → Type 0
MayPass kind = (kind ≡ kinds.WouldBlock) ⊎ (kind ≡ kinds.Interrupted)
