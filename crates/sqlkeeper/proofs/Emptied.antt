-- An office file whose table `staged` was emptied in a transaction.
use Rattle.std.proofs.Common.{◌≡◌, inl, inr, false, IsTrue, Result, Ok, Err, OnOk, [], arith, sym, ap, subst, subst₂, ◌∙◌}
use Rattle.std.specs.Prelude.{IfErr}
use Rattle.sqlite_trees.specs.Tree.{Trees}
use Rattle.sqlite.specs.declared.error.Error.{Error}
use Rattle.sqlite.specs.Effect.{Database}
use Rattle.sqlite.specs.State.{State, HasCleanDisk, IsRolledBack, Shows, KeepsCommit, KeepsCounts, Survives}
use Rattle.sqlite.specs.Steps.{FailsToCommit}
use Rattle.boxes.specs.State.{State as Office}
use Rattle.sqltables.specs.Schema.{v2}
use Rattle.sqltables.specs.Tables.{NoneStaged, IsEmptied}
use Rattle.sqltables.specs.Means.{Means, IsOffice, IsRunning, LeavesLast}
use Rattle.sqltables.specs.Inside.{HasSchema}
use Rattle.sqlaudit.specs.Opened.{SeesSame, LeavesUntouched}
use Rattle.sqlaudit.proofs.Looking.{Begins}
use Rattle.sqlkeeper.specs.Emptying.{EmptiesStaged, HasNoneStaged}
use Rattle.sqlkeeper.proofs.Asked.{rolled}

module _ (old begun mid new : State) (begins : Begins old begun) (survived : Survives begun mid (λ db. ⊥)) (running : HasCleanDisk mid → IsRunning mid)
    (keeps : HasCleanDisk mid → KeepsCommit begun mid) (commit : Survives mid new (λ db. db ≡ mid.now.trees)) (s : Office) (means : Means v2 old s) where
  early : HasCleanDisk new → HasCleanDisk mid
  early clean = omega (arith, clean, commit.clean)

  honest : HasCleanDisk new → HasCleanDisk old
  honest clean = begins.clean (omega (arith, clean, commit.clean, survived.clean))

  was_open : HasCleanDisk new → IsTrue old.is_open
  was_open clean = begins.was_open ((keeps (early clean)).was_open (running (early clean)).1)

  office : HasCleanDisk new → IsOffice v2 old s
  office clean = (means (honest clean)).tables (was_open clean)

  schema : HasCleanDisk new → HasSchema v2.schema begun
  schema clean is_open = ap (λ (d : Database). d.schema) begins.now_is ∙ (office clean).holds.schema

  abbrev pub Commits : Result (Unit {0}) Error → Type 0
  Commits r = HasCleanDisk new → OnOk r (IsTrue mid.in_transaction × Shows mid new mid.now mid.now false × KeepsCounts mid new × (new.marks ≡ []))

  -- the staged rows are gone
  pub emptied : (HasSchema v2.schema begun → IsTrue begun.in_transaction → HasCleanDisk mid → IsEmptied begun.now mid.now) → (r : Result (Unit {0}) Error) → Commits r → OnOk r (EmptiesStaged old new)
  emptied gone (Err e) shows = tt
  emptied gone (Ok x) shows = λ clean.
      let shown = (shows clean).1 in
      let in_it = gone (schema clean) begins.inside (early clean) in
      let it : IsEmptied old.now new.now = subst₂ IsEmptied begins.now_is (sym shown.now_is) in_it in
      record {
        was_open = λ is_open. was_open clean;
        now_is = λ is_open. it;
        committed_is = λ is_open. subst₂ IsEmptied (office clean).settled (shown.now_is ∙ sym shown.committed_is) it;
        mode = shown.mode ∙ sym (means (honest clean)).autocommit;
      }

  -- nothing was staged
  module _ (none : HasNoneStaged old) (same : HasSchema v2.schema begun → IsTrue begun.in_transaction → HasCleanDisk mid → NoneStaged begun.now.trees → mid.now ≡ begun.now)
      (last : IsTrue old.is_open → LeavesLast old) where
    still : HasCleanDisk new → mid.now ≡ old.now
    still clean = same (schema clean) begins.inside (early clean) (subst (λ (d : Database). NoneStaged d.trees) (sym begins.now_is) (none (was_open clean))) ∙ begins.now_is

    crash : (clean : HasCleanDisk new) (trees : Trees) → new.may_leave trees → old.may_leave trees
    crash clean trees left = elim (commit.crash clean trees left) [
      | inl was ↦ elim (survived.crash (early clean) trees was) [ inl first ↦ begins.leaves trees first | inr none ↦ absurd none ]
      | inr made ↦ subst old.may_leave (sym (made ∙ ap (λ (d : Database). d.trees) (still clean ∙ (office clean).settled))) (last (was_open clean))
    ]

    shown_same : (clean : HasCleanDisk new) → Shows mid new mid.now mid.now false → SeesSame old new
    shown_same clean shown = record {
      was_open = λ is_open. was_open clean;
      now_is = λ is_open. shown.now_is ∙ still clean;
      committed_is = λ is_open. shown.committed_is ∙ still clean ∙ (office clean).settled;
      mode = shown.mode ∙ sym (means (honest clean)).autocommit;
    }

    back_same : (clean : HasCleanDisk new) → IsRolledBack mid new → SeesSame old new
    back_same clean back =
        let kept = keeps (early clean) in
        record {
          was_open = λ is_open. was_open clean;
          now_is = λ is_open. (back.undone is_open).0 ∙ kept.committed (back.was_open is_open) ∙ begins.committed_is ∙ sym (office clean).settled;
          committed_is = λ is_open. (back.undone is_open).1 ∙ kept.committed (back.was_open is_open) ∙ begins.committed_is;
          mode = back.autocommit ∙ sym (means (honest clean)).autocommit;
        }

    pub spared : (r : Result (Unit {0}) Error) → Commits r → (HasCleanDisk new → IfErr r (FailsToCommit mid new)) → LeavesUntouched old new
    spared (Ok x) shows fails = record { same = λ clean. shown_same clean (shows clean).1; crash = crash; honest = honest }
    spared (Err e) shows fails = record { same = λ clean. back_same clean (rolled mid new e (fails clean) (running (early clean)).0); crash = crash; honest = honest }
