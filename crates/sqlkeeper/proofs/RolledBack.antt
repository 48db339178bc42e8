-- A transaction that was not committed.
use Rattle.std.proofs.Common.{◌≡◌, ◌∙◌, false, inl, inr, Result, Ok, Err, arith, ap, sym}
use Rattle.std.specs.Prelude.{IfErr, OnErr}
use Rattle.sqlite_trees.specs.Tree.{Trees}
use Rattle.sqlite.specs.declared.error.Error.{Error}
use Rattle.sqlite.specs.Effect.{Database}
use Rattle.sqlite.specs.State.{State, HasCleanDisk, IsRolledBack, KeepsCommit, Survives}
use Rattle.sqlite.specs.Steps.{FailsToCommit}
use Rattle.boxes.specs.State.{State as Office}
use Rattle.sqltables.specs.Schema.{Version}
use Rattle.sqltables.specs.Means.{IsBare, IsRunning, Means}
use Rattle.sqlaudit.specs.Opened.{OnlyLooks, IsSettled}
use Rattle.sqlaudit.proofs.Looking.{Begins, undone_same}
use Rattle.sqlkeeper.proofs.Asked.{rolled}
use Rattle.sqlkeeper.proofs.AtRest.{means_same}

-- a crash before the commit leaves what it could leave before the transaction
pub left_before : {Commits : Trees → Type 0} (old begun mid new : State) → Begins old begun → Survives begun mid (λ db. ⊥) → Survives mid new Commits
    → HasCleanDisk new → (trees : Trees) → mid.may_leave trees → old.may_leave trees
left_before old begun mid new begins survived commit clean trees left = elim (survived.crash (omega (arith, clean, commit.clean)) trees left) [
  | inl first ↦ begins.leaves trees first
  | inr none ↦ absurd none
]

-- no fault of the disk is forgotten
pub clean_before : {Commits : Trees → Type 0} (old begun mid new : State) → Begins old begun → Survives begun mid (λ db. ⊥) → Survives mid new Commits → HasCleanDisk new → HasCleanDisk old
clean_before old begun mid new begins survived commit clean = begins.clean (omega (arith, clean, commit.clean, survived.clean))

pub on_any_error : {T E P : Type 0} (result : Result T E) → P → OnErr result P
on_any_error (Ok value) is = tt
on_any_error (Err error) is = is

-- a connection that sees the same is still bare
pub bare_same : (old new : State) → (HasCleanDisk new → HasCleanDisk old) → OnlyLooks old new → IsBare old → IsBare new
bare_same old new honest looks bare clean =
    let was = bare (honest clean) in
    let same = looks clean in
    record {
      autocommit = same.mode ∙ was.autocommit;
      bare = λ is_open.
          let first = was.bare (same.was_open is_open) in
          record {
            schema = ap (λ (d : Database). d.schema) (same.now_is is_open) ∙ first.schema;
            settled = same.now_is is_open ∙ first.settled ∙ sym (same.committed_is is_open);
          };
    }

module _ {Commits : Trees → Type 0} (old begun mid new : State) (begins : Begins old begun) (survived : Survives begun mid (λ db. ⊥)) (running : HasCleanDisk mid → IsRunning mid)
    (keeps : HasCleanDisk mid → KeepsCommit begun mid) (commit : Survives mid new Commits) where
  early : HasCleanDisk new → HasCleanDisk mid
  early clean = omega (arith, clean, commit.clean)

  honest : HasCleanDisk new → HasCleanDisk old
  honest = clean_before old begun mid new begins survived commit

  looks : (e : Error) → (HasCleanDisk new → FailsToCommit mid new e) → IsSettled old → old.in_transaction ≡ false → OnlyLooks old new
  looks e fails settled mode = undone_same old begun mid new begins settled mode keeps (λ clean. rolled mid new e (fails clean) (running (early clean)).0) early

  -- after a failed commit the connection sees the same as before
  pub looks_back : (r : Result (Unit {0}) Error) → (HasCleanDisk new → IfErr r (FailsToCommit mid new)) → IsSettled old → old.in_transaction ≡ false → OnErr r (OnlyLooks old new)
  looks_back (Ok x) fails settled mode = tt
  looks_back (Err e) fails settled mode = looks e fails settled mode

  -- after a failed commit the office is the same
  pub means_back : (r : Result (Unit {0}) Error) → (HasCleanDisk new → IfErr r (FailsToCommit mid new)) → (v : Version) (s : Office) → Means v old s → OnErr r (Means v new s)
  means_back (Ok x) fails v s means = tt
  means_back (Err e) fails v s means = λ clean.
      let was = means (honest clean) in
      means_same v old new honest (looks e fails (λ is_open. (was.tables is_open).settled) was.autocommit) s means clean

  -- after a failed commit the database is still bare
  pub bare_back : (r : Result (Unit {0}) Error) → (HasCleanDisk new → IfErr r (FailsToCommit mid new)) → IsBare old → OnErr r (IsBare new)
  bare_back (Ok x) fails bare = tt
  bare_back (Err e) fails bare = λ clean.
      let was = bare (honest clean) in
      bare_same old new honest (looks e fails (λ is_open. (was.bare is_open).settled) was.autocommit) bare clean

-- the transaction was dropped before its commit
module _ {Commits : Trees → Type 0} (old begun mid new : State) (begins : Begins old begun) (survived : Survives begun mid (λ db. ⊥)) (keeps : HasCleanDisk mid → KeepsCommit begun mid)
    (undone : HasCleanDisk new → IsRolledBack mid new) (dropped : Survives mid new Commits) where
  early_then : HasCleanDisk new → HasCleanDisk mid
  early_then clean = omega (arith, clean, dropped.clean)

  pub means_dropped : (v : Version) (s : Office) → Means v old s → Means v new s
  means_dropped v s means clean =
      let honest = clean_before old begun mid new begins survived dropped in
      let was = means (honest clean) in
      means_same v old new honest (undone_same old begun mid new begins (λ is_open. (was.tables is_open).settled) was.autocommit keeps undone early_then) s means clean

  pub bare_dropped : IsBare old → IsBare new
  bare_dropped bare clean =
      let honest = clean_before old begun mid new begins survived dropped in
      let was = bare (honest clean) in
      bare_same old new honest (undone_same old begun mid new begins (λ is_open. (was.bare is_open).settled) was.autocommit keeps undone early_then) bare clean
