-- What a query to the file leaves of its keeper.
use Rattle.std.proofs.Common.{◌≡◌, ◌≢◌, ◌⊎◌, ℕ, sym, Result, Ok, Err, IfOk, IfErr, OnOk, OnErr, IsTrue, subst}
use Rattle.std.specs.Prelude.{IsErr, IsErrOf}
use Rattle.sqlite.specs.declared.error.Error.{Error}
use Rattle.sqlite.specs.State.{HasCleanDisk}
use Rattle.sqlite.specs.State as sql
use Rattle.sigtext.specs.Counts.{CountsErrors}
use Rattle.boxes.specs.State.{State}
use Rattle.boxes.specs.Sound.{IsSound}
use Rattle.boxes.specs.declared.keep.KeepFault.{KeepFault}
use Rattle.boxes.specs.declared.keep.KeepFault.TheVariants.{Full, Store}
use Rattle.boxes.specs.Keeping.{KeepsGroup, Stays}
use Rattle.sqltables.specs.Schema.{v2}
use Rattle.sqltables.specs.Means.{Means, LeavesOnly, AddsOnly, LeavesLast}
use Rattle.sqlkeeper.specs.Grouping.{AsksIn, IsOpenIn, LeavesIn, LeavesStatesIn, MeansIn}
use Rattle.sqlkeeper.specs.declared.grouping.Group.{Group}
use Rattle.sqltables.specs.Kept.{KeepsState, MayLeave, LeavesStates}
use Rattle.sqltables.specs.OneState.{one_left}

-- what holds of an answer's value also holds of the counted result's value
pub carried : {T E F : Type 0} (P : T → Type 0) (answer : Result T E) (result : Result T F) → IfOk result (λ x. answer ≡ Ok x) → IfOk answer P → IfOk result P
carried {T = T} {E = E} P answer (Ok x) same found = subst (λ (a : Result T E). IfOk a P) same found
carried P answer (Err e) same found = tt

-- what holds if there is an answer also holds if the counted result is one
opened_too : {T : Type 0} (answer : Result T Error) (result : Result T KeepFault) → IfOk result (λ x. answer ≡ Ok x) → (P : Type 0) → OnOk answer P → OnOk result P
opened_too {T = T} answer (Ok x) is P h = subst (λ (a : Result T Error). OnOk a P) is h
opened_too answer (Err e) is P h = tt

-- what follows from a change that was made, and from one that was not
pub ok_carried : {P Q : Type 0} (answer : Result (Unit {0}) Error) (r : Result (Unit {0}) KeepFault) → IfOk r (λ x. answer ≡ Ok x) → OnOk answer P → (P → Q) → OnOk r Q
ok_carried {P} answer (Ok x) is h then = then (subst (λ (a : Result (Unit {0}) Error). OnOk a P) is h)
ok_carried answer (Err e) is h then = tt

pub err_carried : {P Q : Type 0} (answer : Result (Unit {0}) Error) (r : Result (Unit {0}) KeepFault) → IfErr r (λ f. IsErr answer) → OnErr answer P → (P → Q) → OnErr r Q
err_carried answer (Ok x) is h then = tt
err_carried (Ok y) (Err e) is h then = absurd cc
err_carried (Err y) (Err e) is h then = then h

-- What a question leaves of a keeper. st, grp: what its connection shows, and where its changes go.
module _ {K T : Type 0} (st : K → sql.State) (grp : K → Group) (faults : K → ℕ) (is_alone : K → Type 0) (gathers : K → K → Type 0) (group : Group) (old new : K) (is_old : grp old ≡ group) (is_new : grp new ≡ group)
    (answer : Result T Error) (result : Result T KeepFault) (value : IfOk result (λ x. answer ≡ Ok x)) where
  pub stays : AsksIn group (st old) (st new) answer → CountsErrors (faults old) (faults new) result → IfErr result (λ f. f ≢ Full) → KeepsGroup is_alone gathers old new
      → Stays (λ k. MeansIn (grp k) (st k)) (λ k. HasCleanDisk (st k)) (λ k. IsOpenIn (grp k) (st k)) faults (λ k. LeavesIn (grp k) (st k)) (λ k. LeavesStatesIn (grp k) (st k)) (Unit {0}) is_alone gathers old new result
  stays rest count room keeps = record {
    same = λ s m. subst (λ x. MeansIn x (st new) s) (sym is_new) (rest.same s (subst (λ x. MeansIn x (st old) s) is_old m));
    honest = rest.honest;
    opened = λ clean was. opened_too answer result value (IsOpenIn (grp new) (st new)) (subst (λ x. OnOk answer (IsOpenIn x (st new))) (sym is_new) (rest.opened clean));
    count = count;
    room = room;
    store = λ is. tt;
    crash = λ s t m clean left. subst (λ x. LeavesIn x (st old) t ⊎ (t ≡ s)) (sym is_old) (rest.crash s t (subst (λ x. MeansIn x (st old) s) is_old m) clean (subst (λ x. LeavesIn x (st new) t) is_new left));
    whole = λ s m clean all. subst (λ x. LeavesStatesIn x (st new)) (sym is_new) (rest.whole s (subst (λ x. MeansIn x (st old) s) is_old m) clean (subst (λ x. LeavesStatesIn x (st old)) is_old all));
    group = keeps;
  }

pub kept_then : {X E : Type 0} (new : sql.State) (after : State) (r : Result X E) → IsSound after → OnOk r (Means v2 new after) → OnOk r (KeepsState new after)
kept_then new after (Ok x) sound means = record { means = means; sound = sound }
kept_then new after (Err e) sound means = tt

pub kept_at_error : {X E : Type 0} (new : sql.State) (s : State) (r : Result X E) → IsSound s → OnErr r (Means v2 new s) → OnErr r (KeepsState new s)
kept_at_error new s (Ok x) sound means = tt
kept_at_error new s (Err e) sound means = record { means = means; sound = sound }
