-- A savepoint that did not begin its transaction, after a call within it.
use Rattle.std.proofs.Common.{◌≡◌, ◌⊎◌, inl, inr, ℕ, zero, suc, ◌+◌, ◌<◌, ◌≤◌, List, [], ◌∷◌, length, map, take, drop, get_or, Bool, true, false, Option, None, Some, Result, Ok, Err, IfOk, IfErr, IsTrue, refl, sym, ap, subst, ◌∙◌, arith}
use Rattle.std.specs.Prelude.{slice_index_or, OnOk}
use Rattle.std.proofs.lemmas.Bool.{cases_Bool, false≢true}
use Rattle.sqlite_value.specs.Order.{Row}
use Rattle.sqlite_resolve.specs.declared.compiled.Compiled.{Compiled}
use Rattle.sqlite_schema.specs.declared.command.Returning.{Returning}
use Rattle.sqlite.specs.declared.error.Error.{Error}
use Rattle.sqlite.specs.Clock.{timed}
use Rattle.sqlite.specs.State.{Savepoint, State, HasCleanDisk, ExecutesInside, FailsToQuery, FailsToShow, IsNotRun, IsRolledBack, IsTooLate, IsUnchanged, KeepsCommit, Shown, ShowsRows, begins_at}
use Rattle.sqltables.specs.Apart.{IsApart}
use Rattle.sqltables.specs.Means.{IsRunning}
use Rattle.sqltables.proofs.Runs.{inside_if_ok, rolled_keeps, unchanged_keeps}

-- the mark at a place is the same where the first marks are
same_mark : {X Y : Type 0} (f : X → Y) (d : Y) (n : ℕ) (xs ys : List X) → n < length ys → take (suc n) xs ≡ take (suc n) ys → (n < length xs) × (slice_index_or (map f xs) n d ≡ slice_index_or (map f ys) n d)
same_mark f d n xs [] lt same = absurd (omega (arith, lt))
same_mark f d n [] (y ∷ ys) lt same = absurd (let e = ap length same in omega (arith, e))
same_mark {X} f d zero (x ∷ xs) (y ∷ ys) lt same = (omega arith, ap f (ap (λ (l : List X). get_or l 0 y) same))
same_mark {X} f d (suc n) (x ∷ xs) (y ∷ ys) lt same =
    let it = same_mark f d n xs ys (omega (arith, lt)) (ap (λ (l : List X). drop 1 l) same) in
    (omega (arith, it.0), it.1)

same_begins : (old new : State) (at : ℕ) → at < length old.marks → take (at + 1) new.marks ≡ take (at + 1) old.marks → (at < length new.marks) × (begins_at new at ≡ begins_at old at)
same_begins old new at lt same =
    let more : at + 1 ≡ suc at = omega arith in
    same_mark (λ (p : Savepoint). p.begins) false at new.marks old.marks lt (subst (λ n. take n new.marks ≡ take n old.marks) more same)

marks_same : (old new : State) (at : ℕ) → new.marks ≡ old.marks → (at < length old.marks) × (begins_at old at ≡ false) → (at < length new.marks) × (begins_at new at ≡ false)
marks_same old new at same is = rw same is

-- all is as it was, or the transaction is over
pub apart_still : (old new : State) (at : ℕ) → IsUnchanged old new ⊎ IsRolledBack old new → IsTrue new.in_transaction → (IsTrue old.in_transaction → (at < length old.marks) × (begins_at old at ≡ false)) → (at < length new.marks) × (begins_at new at ≡ false)
apart_still old new at (inl same) inside was = marks_same old new at same.2 (was (subst IsTrue same.0.mode inside))
apart_still old new at (inr back) inside was = absurd (false≢true (sym back.autocommit ∙ inside))

module _ (old new : State) (at : ℕ) (before : HasCleanDisk new → HasCleanDisk old) (was : IsApart old at) where
  -- a statement
  pub apart_executed : (sql : List ℕ) (params : Row) (r : Result ℕ Error) → (old.in_transaction ≡ false → new.in_transaction ≡ false) → (HasCleanDisk new → IsTrue old.in_transaction → ExecutesInside (at + 1) sql params old new r) → IsApart new at
  apart_executed sql params r outside runs clean inside = elim (cases_Bool old.in_transaction) [
    | inl is ↦ ran r (runs clean is) (was (before clean) is)
    | inr none ↦ absurd (false≢true (sym (outside none) ∙ inside))
  ]
    where
      ran : (r : Result ℕ Error) → ExecutesInside (at + 1) sql params old new r → (at < length old.marks) × (begins_at old at ≡ false) → (at < length new.marks) × (begins_at new at ≡ false)
      ran (Ok count) h is =
          let it = same_begins old new at is.0 (h.2 (omega (arith, is.0))) in
          (it.0, it.1 ∙ is.1)
      ran (Err e) (inl h) is = apart_still old new at h.1 inside (λ _. is)
      ran (Err e) (inr h) is = apart_still old new at (inl h.2) inside (λ _. is)

  rows_shown : (sql : List ℕ) (c : Compiled) (params : Row) (rows : List Row) (o : Option Returning) → ShowsRows old new sql c params rows o → (new.marks ≡ old.marks) × (new.in_transaction ≡ old.in_transaction)
  rows_shown sql c params rows None h = (h.3.2, h.3.0.mode)
  rows_shown sql c params rows (Some what) h = (h.1.marks, h.1.shown.mode)

  all_shown : (sql : List ℕ) (params : Row) (rows : List Row) → Shown sql params old new rows → (new.marks ≡ old.marks) × (new.in_transaction ≡ old.in_transaction)
  unfolding Shown
  all_shown sql params rows h = rows_shown sql h.0 (timed params h.0.formats h.1.now) rows h.0.returning h.2

  failed : (sql : List ℕ) (c : Compiled) (params : Row) (e : Error) (o : Option Returning) → FailsToShow old new sql c params e o → IsUnchanged old new ⊎ IsRolledBack old new
  failed sql c params e None h = inl h.3
  failed sql c params e (Some what) (inl h) = inl h.1
  failed sql c params e (Some what) (inr h) = inr h.3

  none_shown : (sql : List ℕ) (params : Row) (e : Error) → FailsToQuery sql params old new e ⊎ IsTooLate sql params old new e → IsUnchanged old new ⊎ IsRolledBack old new
  unfolding FailsToQuery IsNotRun
  none_shown sql params e (inl (inl (inl h))) = inl h.1
  none_shown sql params e (inl (inl (inr h))) = inr h.3
  none_shown sql params e (inl (inr h)) = failed sql h.0 (timed params h.0.formats h.1.now) e h.0.returning h.2
  none_shown sql params e (inr h) = inl h.5

  -- a query
  pub apart_queried : {X : Type 0} (rows_of : X → List Row) (sql : List ℕ) (params : Row) (r : Result X Error) → (HasCleanDisk new → IfOk r (λ x. Shown sql params old new (rows_of x)))
      → (HasCleanDisk new → IfErr r (λ e. FailsToQuery sql params old new e ⊎ IsTooLate sql params old new e)) → IsApart new at
  apart_queried {X} rows_of sql params r ok err clean inside = go r (ok clean) (err clean)
    where
      go : (r : Result X Error) → IfOk r (λ x. Shown sql params old new (rows_of x)) → IfErr r (λ e. FailsToQuery sql params old new e ⊎ IsTooLate sql params old new e) → (at < length new.marks) × (begins_at new at ≡ false)
      go (Ok x) shown none =
          let same = all_shown sql params (rows_of x) shown in
          marks_same old new at same.0 (was (before clean) (subst IsTrue same.1 inside))
      go (Err e) shown none = apart_still old new at (none_shown sql params e none) inside (λ is. was (before clean) is)

-- ---- a statement within a savepoint, which holds the first n

module _ (n : ℕ) (sql : List ℕ) (params : Row) (old new : State) where
  pub mark_ran : (r : Result ℕ Error) (e : Error) (P : Type 0) → (old.in_transaction ≡ false → (r ≡ Err e) × P) → (IsTrue old.in_transaction → ExecutesInside n sql params old new r)
      → IfOk r (λ count. IsTrue old.in_transaction × ExecutesInside 0 sql params old new (Ok count))
  mark_ran (Err x) e P ended runs = tt
  mark_ran (Ok count) e P ended runs =
      let inside = inside_if_ok old.in_transaction (Ok count) count e P ended refl in
      let h = runs inside in
      (inside, (h.0, h.1, λ le. refl))

  pub mark_running : (r : Result ℕ Error) (e : Error) (P : Type 0) → (old.in_transaction ≡ false → (r ≡ Err e) × P) → (IsTrue old.in_transaction → ExecutesInside n sql params old new r) → OnOk r (IsRunning new)
  mark_running (Err x) e P ended runs = tt
  mark_running (Ok count) e P ended runs =
      let h = runs (inside_if_ok old.in_transaction (Ok count) count e P ended refl) in
      (h.1.mode, h.1.is_open)

  pub mark_keeps : (r : Result ℕ Error) → (old.in_transaction ≡ false → KeepsCommit old new) → (IsTrue old.in_transaction → ExecutesInside n sql params old new r) → KeepsCommit old new
  mark_keeps r outside runs = elim (cases_Bool old.in_transaction) [
    | inl inside ↦ ran r (runs inside)
    | inr none ↦ outside none
  ]
    where
      ran : (r : Result ℕ Error) → ExecutesInside n sql params old new r → KeepsCommit old new
      ran (Ok count) h = record { was_open = λ _. h.1.was_open; committed = λ _. h.1.committed_is }
      ran (Err e) (inl (_, inl same)) = unchanged_keeps old new same
      ran (Err e) (inl (_, inr back)) = rolled_keeps old new back
      ran (Err e) (inr ended) = unchanged_keeps old new ended.2
