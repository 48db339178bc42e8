-- The effects of statements and queries inside a transaction, whatever their result.
use Rattle.std.proofs.Common.{◌≡◌, ◌⊎◌, inl, inr, ℕ, List, Option, Bool, true, false, cond, None, Some, Result, Ok, Err, IfOk, IfErr, OnOk, IsTrue, refl, sym, ap, subst, ◌∙◌}
use Rattle.std.proofs.lemmas.Bool.{cases_Bool}
use Rattle.sqlite_value.specs.Order.{Row}
use Rattle.sqlite_schema.specs.declared.command.Command.{Command}
use Rattle.sqlite_schema.specs.declared.command.Returning.{Returning}
use Rattle.sqlite.specs.declared.error.Error.{Error}
use Rattle.sqlite_resolve.specs.declared.compiled.Compiled.{Compiled}
use Rattle.sqlite.specs.Clock.{timed}
use Rattle.sqlite.specs.State.{State, IsUnchanged, IsRolledBack, text_of, IsNotRun, FailsToShow, FailsToQuery, KeepsCommit, ExecutesInside, ShowsRows, Shown, Writes, IsTooLate}
use Rattle.sqltables.specs.Means.{IsRunning}

pub rolled_keeps : (old new : State) → IsRolledBack old new → KeepsCommit old new
rolled_keeps old new h = record { was_open = h.was_open; committed = λ is_open. (h.undone is_open).1 }

pub unchanged_keeps : (old new : State) → IsUnchanged old new → KeepsCommit old new
unchanged_keeps old new h = record { was_open = λ _. h.0.was_open; committed = λ _. h.0.committed_is }

pub inside_if_ok : (inside : Bool) (r : Result ℕ Error) (n : ℕ) (e : Error) (P : Type 0) → (inside ≡ false → (r ≡ Err e) × P) → r ≡ Ok n → IsTrue inside
inside_if_ok true r n e P ended ok = refl
inside_if_ok false r n e P ended ok = absurd (let out = (ended refl).0 in cc)

-- a statement inside a transaction that failed, or did not run because no transaction was pending
pub refused_keeps : (sql : List ℕ) (params : Row) (old new : State) (e : Error) → (old.in_transaction ≡ false → KeepsCommit old new)
    → (IsTrue old.in_transaction → ExecutesInside 0 sql params old new (Err e)) → KeepsCommit old new
refused_keeps sql params old new e outside runs = elim (cases_Bool old.in_transaction) [
  | inl inside ↦ failed (runs (rw inside))
  | inr none ↦ outside none
]
  where
    failed : ExecutesInside 0 sql params old new (Err e) → KeepsCommit old new
    failed (inl (_, inl same)) = unchanged_keeps old new same
    failed (inl (_, inr back)) = rolled_keeps old new back
    failed (inr ended) = unchanged_keeps old new ended.2

pub itself_keeps : (s : State) → KeepsCommit s s
itself_keeps s = record { was_open = λ is_open. is_open; committed = λ is_open. refl }

-- ---- a query inside a transaction

write_keeps : (old new : State) (returning : Option Returning) (command : Command) (text : List ℕ) (params : Row) (count : ℕ) → IsTrue old.in_transaction → Writes old new returning command text params count → KeepsCommit old new
write_keeps old new returning command text params count inside w = record { was_open = λ _. w.shown.was_open; committed = λ _. w.shown.committed_is ∙ ap (λ b. cond b old.committed new.now) inside }

shows_keeps : (old new : State) (sql : List ℕ) (c : Compiled) (params : Row) (rows : List Row) (o : Option Returning) → IsTrue old.in_transaction → ShowsRows old new sql c params rows o → IsTrue old.is_open × KeepsCommit old new
shows_keeps old new sql c params rows None inside h = (h.3.0.was_open, unchanged_keeps old new h.3)
shows_keeps old new sql c params rows (Some what) inside h = (h.1.shown.was_open, write_keeps old new (Some what) c.command (text_of sql c) params h.0 inside h.1)

pub shown_keeps : (sql : List ℕ) (params : Row) (old new : State) (rows : List Row) → IsTrue old.in_transaction → Shown sql params old new rows → IsTrue old.is_open × KeepsCommit old new
unfolding Shown
shown_keeps sql params old new rows inside h = shows_keeps old new sql h.0 (timed params h.0.formats h.1.now) rows h.0.returning inside h.2

not_run_keeps : (sql : List ℕ) (params : Row) (old new : State) (e : Error) → IsNotRun old new sql params e → KeepsCommit old new
unfolding IsNotRun
not_run_keeps sql params old new e (inl h) = unchanged_keeps old new h.1
not_run_keeps sql params old new e (inr h) = rolled_keeps old new h.3

failed_keeps : (old new : State) (sql : List ℕ) (c : Compiled) (params : Row) (e : Error) (o : Option Returning) → FailsToShow old new sql c params e o → KeepsCommit old new
failed_keeps old new sql c params e None h = unchanged_keeps old new h.3
failed_keeps old new sql c params e (Some what) (inl h) = unchanged_keeps old new h.1
failed_keeps old new sql c params e (Some what) (inr h) = rolled_keeps old new h.3

pub query_err_keeps : (sql : List ℕ) (params : Row) (old new : State) (e : Error) → FailsToQuery sql params old new e ⊎ IsTooLate sql params old new e → KeepsCommit old new
unfolding FailsToQuery
query_err_keeps sql params old new e (inl (inl h)) = not_run_keeps sql params old new e h
query_err_keeps sql params old new e (inl (inr h)) = failed_keeps old new sql h.0 (timed params h.0.formats h.1.now) e h.0.returning h.2
query_err_keeps sql params old new e (inr h) = unchanged_keeps old new h.5

pub query_keeps : {X : Type 0} (rows_of : X → List Row) (sql : List ℕ) (params : Row) (old new : State) (r : Result X Error) → IsTrue old.in_transaction → IfOk r (λ x. Shown sql params old new (rows_of x))
    → IfErr r (λ e. FailsToQuery sql params old new e ⊎ IsTooLate sql params old new e) → KeepsCommit old new
query_keeps rows_of sql params old new (Ok x) inside ok err = (shown_keeps sql params old new (rows_of x) inside ok).1
query_keeps rows_of sql params old new (Err e) inside ok err = query_err_keeps sql params old new e err

-- ---- a successful query

rows_run : (old new : State) (sql : List ℕ) (c : Compiled) (params : Row) (rows : List Row) (o : Option Returning) → ShowsRows old new sql c params rows o
    → IsTrue old.is_open × IsTrue new.is_open × (new.in_transaction ≡ old.in_transaction)
rows_run old new sql c params rows None h = (h.3.0.was_open, h.3.0.is_open, h.3.0.mode)
rows_run old new sql c params rows (Some what) h = (h.1.shown.was_open, h.1.shown.is_open, h.1.shown.mode)

pub shown_runs : (sql : List ℕ) (params : Row) (old new : State) (rows : List Row) → Shown sql params old new rows → IsTrue old.is_open × IsTrue new.is_open × (new.in_transaction ≡ old.in_transaction)
unfolding Shown
shown_runs sql params old new rows h = rows_run old new sql h.0 (timed params h.0.formats h.1.now) rows h.0.returning h.2

pub still_running : (sql : List ℕ) (params : Row) (old new : State) (rows : List Row) → IsTrue old.in_transaction → Shown sql params old new rows → IsRunning new
still_running sql params old new rows inside shown = let run = shown_runs sql params old new rows shown in (subst IsTrue (sym run.2) inside, run.1)

pub query_runs : {X : Type 0} (rows_of : X → List Row) (sql : List ℕ) (params : Row) (old new : State) (r : Result X Error) → IsTrue old.in_transaction → IfOk r (λ x. Shown sql params old new (rows_of x)) → OnOk r (IsRunning new)
query_runs rows_of sql params old new (Ok x) inside shown = still_running sql params old new (rows_of x) inside shown
query_runs rows_of sql params old new (Err e) inside shown = tt
