-- Calls that collect the bytes of a file.
use Rattle.std.proofs.Common.{Ok, ℕ, List, IsTrue, arith}
use Rattle.std.specs.Prelude.{Result}
use Rattle.sqlite.specs.declared.error.Error.{Error}
use Rattle.sqlite.specs.State.{HasCleanDisk}
use Rattle.boxes.specs.State.{Place}
use Rattle.sqltables.specs.Inside.{IsSameLedger, View, seen, GoesOnBegun, GoesOnWhere}
use Rattle.sqltables.specs.Means.{IsRunning}
use Rattle.sqltables.proofs.Building.{survives_then, keeps_then}
use Rattle.sqltables.proofs.Gathering.{Gathered}
use Rattle.sqltables.proofs.Onward.{same_then}

-- the effect of the calls so far
pub gathered_goes : {S : Type 0} {g : S → View} {old now : S} {place : Place} {size : ℕ} {bytes : List ℕ} {count : ℕ} → IsSameLedger g old now → Gathered (seen g old) (seen g now) place size bytes count
    → {T : Type 0} (value : T) → GoesOnWhere (IsRunning (seen g old)) (IsTrue (seen g old).in_transaction) g old now (Ok value)
gathered_goes same gathered value = record { same_reference = same; running = gathered.running; uncommitted = gathered.uncommitted; survives = gathered.survives }

-- the effect of the calls so far, and of the next
pub gathered_then : {S : Type 0} {g : S → View} {old mid new : S} {place : Place} {size : ℕ} {bytes : List ℕ} {count : ℕ} {T : Type 0} {result : Result T Error} → IsSameLedger g old mid → Gathered (seen g old) (seen g mid) place size bytes count
    → GoesOnBegun g mid new result → GoesOnWhere (IsRunning (seen g old)) (IsTrue (seen g old).in_transaction) g old new result
gathered_then {g = g} {old = old} {mid = mid} {new = new} same gathered next =
    let early : HasCleanDisk (seen g new) → HasCleanDisk (seen g mid) = λ clean. omega (arith, clean, next.survives.clean) in
    record {
      same_reference = same_then same next.same_reference;
      running = λ clean running. next.running clean (gathered.running (early clean) running).0;
      uncommitted = λ clean inside. keeps_then (seen g old) (seen g mid) (seen g new) (gathered.uncommitted (early clean) inside) (next.uncommitted clean (gathered.inside (early clean) inside));
      survives = survives_then (seen g old) (seen g mid) (seen g new) gathered.survives next.survives;
    }
