-- A query whose transaction has ended.
use Rattle.std.proofs.Common.{◌≡◌, inl, inr, false, IsTrue, Result, Ok, OnOk, [], arith, sym, subst, ◌∙◌}
use Rattle.sqlite.specs.declared.error.Error.{Error}
use Rattle.sqlite.specs.State.{State, HasCleanDisk, IsRolledBack, Shows, KeepsCommit, KeepsCounts, Survives}
use Rattle.sqlite.specs.Steps.{FailsToCommit}
use Rattle.boxes.specs.State.{State as Office}
use Rattle.sqltables.specs.Schema.{v2}
use Rattle.sqltables.specs.Tables.{tables_of}
use Rattle.sqltables.specs.Means.{Holds, Means, OfficeMeans, AddsOnly, Pends, IsRunning}
use Rattle.sqlaudit.proofs.Looking.{Begins}
use Rattle.sqlkeeper.specs.Asking.{LeavesOffice}
use Rattle.sqlkeeper.proofs.Taken.{by_rows}

pub rolled : (mid new : State) (e : Error) → FailsToCommit mid new e → IsTrue mid.in_transaction → IsRolledBack mid new
rolled mid new e (inl fails) inside = fails.3
rolled mid new e (inr refused) inside = absurd (let no = sym inside ∙ refused.1 in cc)

module _ (old begun mid new : State) (begins : Begins old begun) (survived : Survives begun mid (λ db. ⊥)) (running : HasCleanDisk mid → IsRunning mid)
    (still : (s : Office) → Means v2 old s → Pends v2 mid (tables_of s)) (commit : Survives mid new (λ db. db ≡ mid.now.trees)) where
  early : HasCleanDisk new → HasCleanDisk mid
  early clean = omega (arith, clean, commit.clean)

  honest : HasCleanDisk new → HasCleanDisk old
  honest clean = begins.clean (omega (arith, clean, commit.clean, survived.clean))

  holds : (s : Office) → Means v2 old s → HasCleanDisk new → Holds v2 mid.now (tables_of s)
  holds s means clean = let run = running (early clean) in still s means (early clean) run.0 run.1

  crash : (s : Office) → Means v2 old s → AddsOnly v2 old new s
  crash s means clean trees left = elim (commit.crash clean trees left) [
    | inl was ↦ inl (elim (survived.crash (early clean) trees was) [ inl first ↦ begins.leaves trees first | inr none ↦ absurd none ])
    | inr same ↦ inr (subst (λ t. OfficeMeans v2 t s) (sym same) (by_rows v2 mid.now s (holds s means clean)))
  ]

  -- the transaction could not be committed and was rolled back
  pub not_committed : {T : Type 0} (keeps : HasCleanDisk mid → KeepsCommit begun mid) (e : Error) (failed : HasCleanDisk new → FailsToCommit mid new e) (result : Result T Error) → (HasCleanDisk new → OnOk result (IsTrue new.is_open)) → LeavesOffice old new result
  not_committed keeps e failed result opened = record {
    kept = λ s means clean.
        let was = means (honest clean) in
        let back = rolled mid new e (failed clean) (running (early clean)).0 in
        let keep = keeps (early clean) in
        record {
          autocommit = back.autocommit;
          tables = λ is_open.
              let mid_open = back.was_open is_open in
              let office = was.tables (begins.was_open (keep.was_open mid_open)) in
              let last : new.now ≡ old.now = (back.undone is_open).0 ∙ keep.committed mid_open ∙ begins.committed_is ∙ sym office.settled in
              record { holds = subst (λ d. Holds v2 d (tables_of s)) (sym last) office.holds; settled = (back.undone is_open).0 ∙ sym (back.undone is_open).1 };
        };
    crash = crash;
    honest = honest;
    opened = opened;
  }

  -- the transaction was committed
  pub committed : {T : Type 0} (done : HasCleanDisk new → IsTrue mid.in_transaction × Shows mid new mid.now mid.now false × KeepsCounts mid new × (new.marks ≡ [])) (answer : T) → LeavesOffice old new (Ok answer)
  committed done answer = record {
    kept = λ s means clean.
        let shown = (done clean).1 in
        record {
          autocommit = shown.mode;
          tables = λ is_open. record { holds = subst (λ d. Holds v2 d (tables_of s)) (sym shown.now_is) (holds s means clean); settled = shown.now_is ∙ sym shown.committed_is };
        };
    crash = crash;
    honest = honest;
    opened = λ clean. (done clean).1.is_open;
  }
