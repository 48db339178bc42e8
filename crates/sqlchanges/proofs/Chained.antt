-- Calls inside a transaction, one after the other.
use Rattle.std.proofs.Common.{◌∙◌, arith, refl, Ok, Err, Result}
use Rattle.std.specs.Result.{IsErr}
use Rattle.std.proofs.lemmas.Result.{IfOk-from_err}
use Rattle.sqlite.specs.declared.error.Error.{Error}
use Rattle.sqlite.specs.State.{HasCleanDisk}
use Rattle.sqltables.specs.Inside.{View, seen, GoesOnInside, GoesOnWhere}
use Rattle.sqltables.specs.Means.{IsRunning}
use Rattle.sqltables.proofs.Building.{survives_itself, survives_then, keeps_then}
use Rattle.sqltables.proofs.Runs.{itself_keeps}
use Rattle.sqltables.proofs.Onward.{same_itself, same_then}

pub goes_on_then : {S T U : Type 0} (g : S → View) (a b c : S) (r : Result T Error) (q : Result U Error)
    → GoesOnInside g a b r → GoesOnInside g b c q → GoesOnInside g a c q
goes_on_then g a b c r q one two = record {
  same_reference = same_then one.same_reference two.same_reference;
  running = two.running;
  uncommitted = λ clean.
      let early : HasCleanDisk (seen g b) = omega (arith, clean, two.survives.clean) in
      keeps_then (seen g a) (seen g b) (seen g c) (one.uncommitted early) (two.uncommitted clean);
  survives = survives_then (seen g a) (seen g b) (seen g c) one.survives two.survives;
}

module _ {S : Type 0} {g : S → View} where
  -- nothing was called, and there is an error
  pub refused : {T : Type 0} {error : Error} (tx : S) → GoesOnInside {T = T} g tx tx (Err error)
  refused tx = record { same_reference = same_itself; running = λ clean. tt; uncommitted = λ clean. itself_keeps (seen g tx); survives = survives_itself (seen g tx) }

  -- nothing was called, and the result is an error
  pub gave_up : {T : Type 0} (tx : S) (result : Result T Error) → IsErr result → GoesOnInside g tx tx result
  gave_up tx result err = record {
    same_reference = same_itself;
    running = λ clean. IfOk-from_err result _ err;
    uncommitted = λ clean. itself_keeps (seen g tx);
    survives = survives_itself (seen g tx);
  }

  module _ {old new : S} where
    -- the effect of a failed call, for another error
    pub failed : {T U : Type 0} {first : Result T Error} (result : Result U Error) → GoesOnInside g old new first → IsErr result → GoesOnInside g old new result
    failed result goes err = record { same_reference = goes.same_reference; running = λ clean. IfOk-from_err result _ err; uncommitted = goes.uncommitted; survives = goes.survives }

    -- the effect of a call that succeeded, for another value
    pub succeeded : {T U : Type 0} {value : T} (result : U) → GoesOnInside g old new (Ok value) → GoesOnInside g old new (Ok result)
    succeeded result goes = record { same_reference = goes.same_reference; running = goes.running; uncommitted = goes.uncommitted; survives = goes.survives }

    -- the same in the words of a call that may have nothing to run
    pub within : {Ran Began T : Type 0} {result : Result T Error} → GoesOnInside g old new result → GoesOnWhere Ran Began g old new result
    within goes = record {
      same_reference = goes.same_reference;
      running = λ clean _. goes.running clean;
      uncommitted = λ clean _. goes.uncommitted clean;
      survives = goes.survives;
    }

  -- a call, and then one that may have nothing to run
  pub goes_on_maybe : {T U : Type 0} {old mid new : S} {value : T} {result : Result U Error} → GoesOnInside g old mid (Ok value) → GoesOnWhere (IsRunning (seen g mid)) (Unit {0}) g mid new result
      → GoesOnInside g old new result
  goes_on_maybe {old = old} {mid = mid} {new = new} one two =
      let early : HasCleanDisk (seen g new) → HasCleanDisk (seen g mid) = λ clean. omega (arith, clean, two.survives.clean) in
      record {
        same_reference = same_then one.same_reference two.same_reference;
        running = λ clean. two.running clean (one.running (early clean));
        uncommitted = λ clean. keeps_then (seen g old) (seen g mid) (seen g new) (one.uncommitted (early clean)) (two.uncommitted clean tt);
        survives = survives_then (seen g old) (seen g mid) (seen g new) one.survives two.survives;
      }
