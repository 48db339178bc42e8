-- A call within the transaction of a group, in a savepoint of its own.
use Rattle.std.proofs.Common.{◌≡◌, ◌⊎◌, inl, inr, ℕ, List, [], ◌∷◌, ◌++◌, Bool, true, false, IsTrue, Result, Ok, Err, arith, refl, sym, ap, subst, ◌∙◌}
use Rattle.std.specs.Prelude.{◌<◌, IfErr, IsErr, OnOk, OnErr, length, map, not, slice_index_or}
use Rattle.std.proofs.lemmas.List.{length-append}
use Rattle.std.proofs.lemmas.Bool.{false≢true}
use Rattle.sqlite_trees.specs.Tree.{Trees}
use Rattle.sqlite.specs.declared.error.Error.{Error}
use Rattle.sqlite.specs.State.{State, HasCleanDisk, IsRolledBack, IsUnchanged, KeepsCommit, Marks, ReleasesAt, Savepoint, Shows, Survives, begins_at}
use Rattle.sqlite.specs.Steps.{Discards, FailsAtMark}
use Rattle.boxes.specs.State.{State as Office}
use Rattle.sqltables.specs.Schema.{v2}
use Rattle.sqltables.specs.Tables.{Tables}
use Rattle.sqltables.specs.Means.{Holds, IsRunning, Pends}
use Rattle.sqltables.proofs.Building.{keeps_then, survives_then}
use Rattle.sqltables.specs.Apart.{IsApart}
use Rattle.sqlkeeper.specs.Grouping.{GoesOnInGroup}

-- ---- single steps

pub rolled_keeps : (old new : State) → IsRolledBack old new → KeepsCommit old new
rolled_keeps old new back = record { was_open = back.was_open; committed = λ is_open. (back.undone is_open).1 }

pub unchanged_keeps : (old new : State) → IsUnchanged old new → KeepsCommit old new
unchanged_keeps old new same = record { was_open = λ _. same.0.was_open; committed = λ _. same.0.committed_is }

pub marked_keeps : (old new : State) (name : List ℕ) → Marks old new name → KeepsCommit old new
marked_keeps old new name marks = record { was_open = λ _. marks.0.was_open; committed = λ _. marks.0.committed_is }

-- a savepoint that did not begin the transaction is released
pub released : (mid new : State) (at : ℕ) → begins_at mid at ≡ false → ReleasesAt mid new at → Shows mid new mid.now mid.committed true
released mid new at apart (inl (begins, rest)) = absurd (false≢true (sym apart ∙ begins))
released mid new at apart (inr (not, drops)) = drops.0

-- what a savepoint that is undone leaves of the last commit
pub discarded_keeps : (mid last : State) (at : ℕ) → Discards mid last at → KeepsCommit mid last
discarded_keeps mid last at (inl (begins, back)) = rolled_keeps mid last back
discarded_keeps mid last at (inr h) = record { was_open = λ _. h.3.was_open; committed = λ _. h.3.committed_is }

pub failed_keeps : (mid last : State) (at : ℕ) (e : Error) → FailsAtMark mid last at e → KeepsCommit mid last
failed_keeps mid last at e (inl fails) = rolled_keeps mid last fails.3
failed_keeps mid last at e (inr h) = unchanged_keeps mid last h.2

-- a savepoint that is there could not be released: the transaction is undone
pub failed_over : (mid new : State) (at : ℕ) (e : Error) → at < length mid.marks → FailsAtMark mid new at e → IsRolledBack mid new
failed_over mid new at e there (inl fails) = fails.3
failed_over mid new at e there (inr h) = absurd (let gone = h.1 in omega (arith, there, gone))

-- nothing is committed where it can't be
pub survives_none : {Commits : Trees → Type 0} (mid new : State) → (HasCleanDisk new → (db : Trees) → Commits db → ⊥) → Survives mid new Commits → Survives mid new (λ _. ⊥)
survives_none mid new none it = record {
  clean = it.clean;
  shield = it.shield;
  counts = it.counts;
  limit = it.limit;
  closes = it.closes;
  crash = λ clean db left. elim (it.crash clean db left) [ inl was ↦ inl was | inr commits ↦ absurd (none clean db commits) ];
}

-- no transaction is pending, so it shows nothing
pub pends_over : (s : State) (tables : Tables) → (HasCleanDisk s → s.in_transaction ≡ false) → Pends v2 s tables
pends_over s tables over clean inside is_open = absurd (false≢true (sym (over clean) ∙ inside))

-- what a savepoint leaves of the last commit that was to be undone, whether or not it was
pub ended_keeps : (mid last : State) (at : ℕ) (r : Result (Unit {0}) Error) → OnOk r (Discards mid last at) → IfErr r (FailsAtMark mid last at) → KeepsCommit mid last
ended_keeps mid last at (Ok x) done failed = discarded_keeps mid last at done
ended_keeps mid last at (Err e) done failed = failed_keeps mid last at e failed

-- a savepoint shows what the transaction shows
pub pends_marked : (old begun : State) (tables : Tables) → Survives old begun (λ _. ⊥) → (HasCleanDisk begun → Marks old begun []) → IsTrue old.in_transaction → Pends v2 old tables → Pends v2 begun tables
pends_marked old begun tables survives marks inside pends clean is_inside is_open =
    let shown = (marks clean).0 in
    subst (λ d. Holds v2 d tables) (sym shown.now_is) (pends (omega (arith, clean, survives.clean)) inside shown.was_open)

last_of : (f : Savepoint → Bool) (ms : List Savepoint) (m : Savepoint) → slice_index_or (map f (ms ++ m ∷ [])) (length ms) false ≡ f m
last_of f [] m = refl
last_of f (x ∷ ms) m = last_of f ms m

-- a savepoint within a transaction did not begin it
pub marked_apart : (old begun : State) (at : ℕ) → IsTrue old.in_transaction → (HasCleanDisk begun → (at ≡ length old.marks) × Marks old begun []) → IsApart begun at
marked_apart old begun at inside it clean running =
    let h = it clean in
    let new : Savepoint = record { name = []; begins = not old.in_transaction; db = old.now } in
    let more = length-append old.marks (new ∷ []) in
    let within : at < length (old.marks ++ new ∷ []) = omega (arith, h.0, more) in
    let begins : slice_index_or (map (λ (p : Savepoint). p.begins) (old.marks ++ new ∷ [])) at false ≡ false =
    subst (λ n. slice_index_or (map (λ (p : Savepoint). p.begins) (old.marks ++ new ∷ [])) n false ≡ false) (sym h.0) (last_of (λ (p : Savepoint). p.begins) old.marks new ∙ ap not inside) in
    (subst (λ (ms : List Savepoint). at < length ms) (sym h.1.2) within, subst (λ (ms : List Savepoint). slice_index_or (map (λ (p : Savepoint). p.begins) ms) at false ≡ false) (sym h.1.2) begins)

-- ---- the whole call

module _ (old begun mid new : State) (at : ℕ) (marks : HasCleanDisk begun → Marks old begun []) (marking : Survives old begun (λ _. ⊥))
    (keeps : HasCleanDisk mid → KeepsCommit begun mid) (calling : Survives begun mid (λ _. ⊥)) (apart : IsApart mid at) where
  early : HasCleanDisk mid → HasCleanDisk begun
  early clean = omega (arith, clean, calling.clean)

  mid_keeps : HasCleanDisk mid → KeepsCommit old mid
  mid_keeps clean = keeps_then old begun mid (marked_keeps old begun [] (marks (early clean))) (keeps clean)

  mid_survives : Survives old mid (λ _. ⊥)
  mid_survives = survives_then old begun mid marking calling

  module _ (running : HasCleanDisk mid → IsRunning mid) (commit : Survives mid new (λ db. IsTrue (begins_at mid at) × (db ≡ mid.now.trees))) where
    before : HasCleanDisk new → HasCleanDisk mid
    before clean = omega (arith, clean, commit.clean)

    inside : HasCleanDisk new → (at < length mid.marks) × (begins_at mid at ≡ false)
    inside clean = apart (before clean) (running (before clean)).0

    all_survives : Survives old new (λ _. ⊥)
    all_survives = survives_then old mid new mid_survives (survives_none mid new (λ clean db commits. false≢true (sym (inside clean).1 ∙ commits.0)) commit)

    -- the savepoint was released
    pub goes_on : {T : Type 0} (value : T) → (HasCleanDisk new → ReleasesAt mid new at) → GoesOnInGroup old new (Ok value)
    goes_on value release = record {
      keeps = λ clean.
          let shown = released mid new at (inside clean).1 (release clean) in
          keeps_then old mid new (mid_keeps (before clean)) (record { was_open = λ _. shown.was_open; committed = λ _. shown.committed_is });
      survives = all_survives;
      running = λ clean. let shown = released mid new at (inside clean).1 (release clean) in (shown.mode, shown.is_open);
      over = λ clean. tt;
    }

    pub pends_on : (tables : Tables) → Pends v2 mid tables → (HasCleanDisk new → ReleasesAt mid new at) → Pends v2 new tables
    pends_on tables pends release clean is_inside is_open =
        let shown = released mid new at (inside clean).1 (release clean) in
        let run = running (before clean) in
        subst (λ d. Holds v2 d tables) (sym shown.now_is) (pends (before clean) run.0 run.1)

    pub over : (e : Error) → (HasCleanDisk new → FailsAtMark mid new at e) → HasCleanDisk new → new.in_transaction ≡ false
    over e fails clean = (failed_over mid new at e (inside clean).0 (fails clean)).autocommit

    -- it could not be released
    pub breaks : {T : Type 0} (result : Result T Error) (e : Error) → IsErr result → (HasCleanDisk new → FailsAtMark mid new at e) → GoesOnInGroup old new result
    breaks (Ok x) e failed fails = absurd (false≢true failed)
    breaks (Err x) e failed fails = record {
      keeps = λ clean. keeps_then old mid new (mid_keeps (before clean)) (failed_keeps mid new at e (fails clean));
      survives = all_survives;
      running = λ clean. tt;
      over = over e fails;
    }

    -- the savepoint was to be released
    pub either : (r : Result (Unit {0}) Error) → (HasCleanDisk new → OnOk r (ReleasesAt mid new at)) → (HasCleanDisk new → IfErr r (FailsAtMark mid new at)) → GoesOnInGroup old new r
    either (Ok x) release fails = goes_on x release
    either (Err e) release fails = breaks (Err e) e refl fails

    pub pends_kept : (tables : Tables) → Pends v2 mid tables → (r : Result (Unit {0}) Error) → (HasCleanDisk new → OnOk r (ReleasesAt mid new at)) → OnOk r (Pends v2 new tables)
    pends_kept tables pends (Ok x) release = pends_on tables pends release
    pends_kept tables pends (Err e) release = tt

    pub pends_broken : (tables : Tables) (r : Result (Unit {0}) Error) → (HasCleanDisk new → IfErr r (FailsAtMark mid new at)) → OnErr r (Pends v2 new tables)
    pends_broken tables (Ok x) fails = tt
    pends_broken tables (Err e) fails = pends_over new tables (over e fails)

  -- the call failed, and the transaction was undone
  module _ (last : State) (discard : HasCleanDisk last → KeepsCommit mid last) (discarding : Survives mid last (λ _. ⊥)) (undone : HasCleanDisk new → KeepsCommit last new) (undoing : Survives last new (λ _. ⊥))
      (ended : HasCleanDisk new → new.in_transaction ≡ false) where
    pub stops : {T : Type 0} (e : Error) → GoesOnInGroup {T = T} old new (Err e)
    stops e = record {
      keeps = λ clean.
          let last_clean : HasCleanDisk last = omega (arith, clean, undoing.clean) in
          let mid_clean : HasCleanDisk mid = omega (arith, last_clean, discarding.clean) in
          keeps_then old last new (keeps_then old mid last (mid_keeps mid_clean) (discard last_clean)) (undone clean);
      survives = survives_then old last new (survives_then old mid last mid_survives discarding) undoing;
      running = λ clean. tt;
      over = ended;
    }
