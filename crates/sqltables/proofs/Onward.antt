-- Calls in a transaction, one after the other.
use Rattle.std.proofs.Common.{Ok, Err, arith, refl, ◌∙◌}
use Rattle.std.specs.Prelude.{Result, OnOk}
use Rattle.std.specs.Result.{IsErr}
use Rattle.std.proofs.lemmas.Result.{IfOk-from_err}
use Rattle.sqlite.specs.declared.error.Error.{Error}
use Rattle.sqlite.specs.State.{HasCleanDisk}
use Rattle.sqltables.specs.Inside.{IsSameLedger, View, seen, GoesOnBegun, GoesOnWhere}
use Rattle.sqltables.specs.Means.{IsRunning}
use Rattle.sqltables.proofs.Building.{keeps_then, survives_itself, survives_then}
use Rattle.sqltables.proofs.Runs.{itself_keeps}

-- the transaction itself
pub same_itself : {S : Type 0} {g : S → View} {tx : S} → IsSameLedger g tx tx
same_itself = record { name = refl; apart = λ apart. apart }

pub same_then : {S : Type 0} {g : S → View} {old mid new : S} → IsSameLedger g old mid → IsSameLedger g mid new → IsSameLedger g old new
same_then first second = record { name = second.name ∙ first.name; apart = λ apart. second.apart (first.apart apart) }

on_any : {T E P : Type 0} (result : Result T E) → P → OnOk result P
on_any (Ok value) is = is
on_any (Err error) is = tt

module _ {S : Type 0} {g : S → View} {Ran Began : Type 0} where
  -- nothing was called
  pub not_called : {T : Type 0} (tx : S) (result : Result T Error) → (Ran → OnOk result (IsRunning (seen g tx))) → GoesOnWhere Ran Began g tx tx result
  not_called tx result running = record {
    same_reference = same_itself;
    running = λ clean ran. running ran;
    uncommitted = λ clean began. itself_keeps (seen g tx);
    survives = survives_itself (seen g tx);
  }

  -- nothing was called, and there is an error
  pub refused : {T : Type 0} {error : Error} (tx : S) → GoesOnWhere {T = T} Ran Began g tx tx (Err error)
  refused {T = T} {error = error} tx = not_called {T = T} tx (Err error) (λ ran. tt)

  -- nothing was called, and the result is an error
  pub gave_up : {T : Type 0} (tx : S) (result : Result T Error) → IsErr result → GoesOnWhere Ran Began g tx tx result
  gave_up tx result err = not_called tx result (λ ran. IfOk-from_err result _ err)

  module _ {old new : S} where
    -- the effect of a failed call, for another error
    pub failed : {T U : Type 0} {first : Result T Error} (result : Result U Error) → GoesOnWhere Ran Began g old new first → IsErr result → GoesOnWhere Ran Began g old new result
    failed result goes err = record {
      same_reference = goes.same_reference;
      running = λ clean ran. IfOk-from_err result _ err;
      uncommitted = goes.uncommitted;
      survives = goes.survives;
    }

    -- the effect of a call that succeeded, for another value
    pub succeeded : {T U : Type 0} {value : T} (result : U) → GoesOnWhere Ran Began g old new (Ok value) → GoesOnWhere Ran Began g old new (Ok result)
    succeeded result goes = record { same_reference = goes.same_reference; running = goes.running; uncommitted = goes.uncommitted; survives = goes.survives }

    -- the effect of a call that succeeded, for the result of what touches no table
    pub followed : {T U : Type 0} {value : T} (result : Result U Error) → GoesOnWhere Ran Began g old new (Ok value) → GoesOnWhere Ran Began g old new result
    followed result goes = record {
      same_reference = goes.same_reference;
      running = λ clean ran. on_any result (goes.running clean ran);
      uncommitted = goes.uncommitted;
      survives = goes.survives;
    }

    -- the same under stronger premises
    pub weaker : {RanToo BeganToo T : Type 0} {result : Result T Error} → (RanToo → Ran) → (BeganToo → Began) → GoesOnWhere Ran Began g old new result → GoesOnWhere RanToo BeganToo g old new result
    weaker ran began goes = record {
      same_reference = goes.same_reference;
      running = λ clean is. goes.running clean (ran is);
      uncommitted = λ clean is. goes.uncommitted clean (began is);
      survives = goes.survives;
    }

  -- a call, and then another
  module _ {RanThen BeganThen : Type 0} {old mid new : S} {T U : Type 0} {value : T} {result : Result U Error} (began : Began → Ran) (then : IsRunning (seen g mid) → RanThen × BeganThen)
      (first : GoesOnWhere Ran Began g old mid (Ok value)) (second : GoesOnWhere RanThen BeganThen g mid new result) where
    early : HasCleanDisk (seen g new) → HasCleanDisk (seen g mid)
    early clean = omega (arith, clean, second.survives.clean)

    pub and_then : GoesOnWhere Ran Began g old new result
    and_then = record {
      same_reference = same_then first.same_reference second.same_reference;
      running = λ clean ran. second.running clean (then (first.running (early clean) ran)).0;
      uncommitted = λ clean is. keeps_then (seen g old) (seen g mid) (seen g new) (first.uncommitted (early clean) is) (second.uncommitted clean (then (first.running (early clean) (began is))).1);
      survives = survives_then (seen g old) (seen g mid) (seen g new) first.survives second.survives;
    }

-- two calls in a transaction that is not over
pub begun_then : {S T U : Type 0} {g : S → View} {old mid new : S} {value : T} {result : Result U Error} → GoesOnBegun g old mid (Ok value) → GoesOnBegun g mid new result → GoesOnBegun g old new result
begun_then first second = and_then (λ began. began) (λ running. (running.0, running.0)) first second
