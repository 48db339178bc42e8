-- A statement that was executed.
use Rattle.std.proofs.Common.{Ok, Err, Result}
use Rattle.std.specs.Prelude.{OnOk}

-- what follows from the execution, if the disk is still clean
pub ran_then : {T E Clean Ran P : Type 0} (result : Result T E) → (Clean → OnOk result Ran) → (Clean → Ran → P) → OnOk result (Clean → P)
ran_then (Ok value) ran then = λ clean. then clean (ran clean)
ran_then (Err error) ran then = tt
