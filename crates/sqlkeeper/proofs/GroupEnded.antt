-- The beginning and the end of a group's transaction.
use Rattle.std.proofs.Common.{◌≡◌, ◌⊎◌, inl, inr, IsTrue, Result, Ok, Err, OnOk, refl, sym, subst, ◌∙◌, ap, arith}
use Rattle.std.specs.Prelude.{◌↔◌, OnErr, true, false}
use Rattle.sqlite_trees.specs.Tree.{Trees}
use Rattle.sqlite.specs.declared.error.Error.{Error}
use Rattle.sqlite.specs.Effect.{Database}
use Rattle.sqlite.specs.State.{State, HasCleanDisk, IsRolledBack, IsUnchanged, Shows, Survives}
use Rattle.boxes.specs.State.{State as Office}
use Rattle.sqltables.specs.Schema.{v2}
use Rattle.sqltables.specs.Tables.{tables_of}
use Rattle.sqltables.specs.Means.{AddsOnly, Holds, IsKept, LeavesLast, Means}
use Rattle.sqltables.specs.Kept.{KeepsState, LeavesStates, MayLeave, RowsKeep}
use Rattle.sqltables.specs.OneState.{one_left}
use Rattle.sqlkeeper.specs.Grouping.{IsGrouped, PendsState, WouldLeave, WouldLeaveStates}
use Rattle.sqlkeeper.specs.declared.grouping.Group.TheVariants.{Idle, Begun}

-- ---- a transaction was begun

module _ (old new : State) (free : HasCleanDisk new → old.in_transaction ≡ false) (shows : HasCleanDisk new → Shows old new old.now old.committed true) (survives : Survives old new (λ _. ⊥)) where
  before : HasCleanDisk new → HasCleanDisk old
  before clean = omega (arith, clean, survives.clean)

  pub pends_first : (s : Office) → KeepsState old s → PendsState new s
  pends_first s k = record {
    pends = λ clean inside is_open.
        let shown = shows clean in
        subst (λ d. Holds v2 d (tables_of s)) (sym shown.now_is) ((k.means (before clean)).tables shown.was_open).holds;
    sound = k.sound;
  }

  pub grouped_first : (first : State) → IsGrouped first Idle old → IsGrouped first Begun new
  grouped_first first it = record {
    honest = λ clean. it.honest (before clean);
    base = λ s was clean is_open.
        let shown = shows clean in
        let office = (it.base s was (before clean)).tables shown.was_open in
        subst (λ d. Holds v2 d (tables_of s)) (office.settled ∙ sym shown.committed_is) office.holds;
    crash = λ s was clean trees leaves. elim (survives.crash clean trees leaves) [
      | inl earlier ↦ it.crash s was (before clean) trees earlier
      | inr none ↦ absurd none
    ];
  }

-- ---- none could be begun

-- the connection sees the last commit, as it did before
pub still_means : (old new : State) → (HasCleanDisk new → HasCleanDisk old) → (HasCleanDisk new → IsUnchanged old new ⊎ IsRolledBack old new) → (s : Office) → Means v2 old s → Means v2 new s
still_means old new honest how s means clean = elim (how clean) [
  | inl same ↦ record {
    autocommit = same.0.mode ∙ was.autocommit;
    tables = λ is_open.
        let office = was.tables same.0.was_open in
        record { holds = subst (λ d. Holds v2 d (tables_of s)) (sym same.0.now_is) office.holds; settled = same.0.now_is ∙ office.settled ∙ sym same.0.committed_is };
  }
  | inr back ↦ record {
    autocommit = back.autocommit;
    tables = λ is_open.
        let office = was.tables (back.was_open is_open) in
        record { holds = subst (λ d. Holds v2 d (tables_of s)) (office.settled ∙ sym (back.undone is_open).0) office.holds; settled = (back.undone is_open).0 ∙ sym (back.undone is_open).1 };
  }
]
  where
    was : IsKept v2 old s
    was = means (honest clean)

pub grouped_still : (first old new : State) → Survives old new (λ _. ⊥) → (HasCleanDisk new → IsUnchanged old new ⊎ IsRolledBack old new) → IsGrouped first Idle old → IsGrouped first Idle new
grouped_still first old new survives how it = record {
  honest = λ clean. it.honest (before_it clean);
  base = λ s was. still_means old new before_it how s (it.base s was);
  crash = λ s was clean trees leaves. elim (survives.crash clean trees leaves) [
    | inl earlier ↦ it.crash s was (before_it clean) trees earlier
    | inr none ↦ absurd none
  ];
}
  where
    before_it : HasCleanDisk new → HasCleanDisk old
    before_it clean = omega (arith, clean, survives.clean)

-- ---- it was committed, or not

module _ (old new : State) (survives : Survives old new (λ db. IsTrue old.in_transaction × (db ≡ old.now.trees))) where
  early : HasCleanDisk new → HasCleanDisk old
  early clean = omega (arith, clean, survives.clean)

  module _ (committed : HasCleanDisk new → IsTrue old.in_transaction × Shows old new old.now old.now false) (law : (db : Trees) → IsTrue new.is_open → new.may_leave db → db ≡ new.committed.trees) where
    pub settles : (s : Office) → PendsState old s → KeepsState new s
    settles s k = record {
      means = λ clean.
          let it = committed clean in
          record {
            autocommit = it.1.mode;
            tables = λ is_open. record {
              holds = subst (λ d. Holds v2 d (tables_of s)) (sym it.1.now_is) (k.pends (early clean) it.0 it.1.was_open);
              settled = it.1.now_is ∙ sym it.1.committed_is;
            };
          };
      sound = k.sound;
    }

    last : HasCleanDisk new → (db : Trees) → new.may_leave db → db ≡ old.now.trees
    last clean db left = law db (committed clean).1.is_open left ∙ ap (λ (d : Database). d.trees) (committed clean).1.committed_is

    pub settles_only : HasCleanDisk new → (t : Office) → MayLeave new t → WouldLeave old t
    settles_only clean t left = record { inside = (committed clean).0; keep = subst (λ trees. RowsKeep trees t) (last clean left.trees left.left) left.keep }

    pub settles_all : ((is_open : IsTrue new.is_open) → LeavesLast new) → HasCleanDisk new → (t : Office) → WouldLeave old t → MayLeave new t
    settles_all stays clean t would =
        let it = committed clean in
        record { trees = new.committed.trees; left = stays it.1.is_open; keep = subst (λ trees. RowsKeep trees t) (sym (ap (λ (d : Database). d.trees) it.1.committed_is)) would.keep }

    pub settles_whole : WouldLeaveStates old → LeavesStates new
    settles_whole whole clean trees left =
        let it = whole (early clean) (committed clean).0 in
        (it.0, subst (λ x. RowsKeep x it.0) (sym (last clean trees left)) it.1)

  module _ (first : State) (it : IsGrouped first Begun old) (undone : HasCleanDisk new → IsRolledBack old new) (s : Office) (was : KeepsState first s) where
    pub goes_back : KeepsState new s
    goes_back = record {
      means = λ clean.
          let back = undone clean in
          record {
            autocommit = back.autocommit;
            tables = λ is_open. record {
              holds = subst (λ d. Holds v2 d (tables_of s)) (sym (back.undone is_open).0) (it.base s was.means (early clean) (back.was_open is_open));
              settled = (back.undone is_open).0 ∙ sym (back.undone is_open).1;
            };
          };
      sound = was.sound;
    }

    pub may_leave_all : (t : Office) → HasCleanDisk new → MayLeave new t → MayLeave first t ⊎ ((t ≡ s) ⊎ WouldLeave old t)
    may_leave_all t clean left = elim (survives.crash clean left.trees left.left) [
      | inl earlier ↦ elim (it.crash s was.means (early clean) left.trees earlier) [
        | inl first_left ↦ inl (record { trees = left.trees; left = first_left; keep = left.keep })
        | inr means ↦ inr (inl (one_left left.trees t s left.keep (record { means = means; sound = was.sound })))
      ]
      | inr commits ↦ inr (inr (record { inside = commits.0; keep = subst (λ x. RowsKeep x t) commits.1 left.keep }))
    ]

    pub goes_back_whole : HasCleanDisk new → LeavesStates first → WouldLeaveStates old → LeavesStates new
    goes_back_whole clean all would again trees left = elim (survives.crash clean trees left) [
      | inl earlier ↦ elim (it.crash s was.means (early clean) trees earlier) [
        | inl first_left ↦ all (it.honest (early clean)) trees first_left
        | inr means ↦ (s, record { means = means; sound = was.sound })
      ]
      | inr commits ↦
          let some = would (early clean) commits.0 in
          (some.0, subst (λ x. RowsKeep x some.0) (sym commits.1) some.1)
    ]

-- ---- the same, whatever the commit returned

module _ (old new : State) (survives : Survives old new (λ db. IsTrue old.in_transaction × (db ≡ old.now.trees))) (law : (db : Trees) → IsTrue new.is_open → new.may_leave db → db ≡ new.committed.trees) where
  pub kept_ok : (a : Result (Unit {0}) Error) → (HasCleanDisk new → OnOk a (IsTrue old.in_transaction × Shows old new old.now old.now false)) → (s : Office) → PendsState old s → OnOk a (KeepsState new s)
  kept_ok (Ok x) committed s k = settles old new survives committed law s k
  kept_ok (Err e) committed s k = tt

  pub opened_ok : (a : Result (Unit {0}) Error) → OnOk a (IsTrue old.in_transaction × Shows old new old.now old.now false) → OnOk a (IsTrue new.is_open)
  opened_ok (Ok x) committed = committed.1.is_open
  opened_ok (Err e) committed = tt

  pub durable_ok : (a : Result (Unit {0}) Error) → (HasCleanDisk new → OnOk a (IsTrue old.in_transaction × Shows old new old.now old.now false)) → ((is_open : IsTrue new.is_open) → LeavesLast new) → HasCleanDisk new
      → OnOk a ((t : Office) → MayLeave new t ↔ WouldLeave old t)
  durable_ok (Ok x) committed stays clean = λ t. (settles_only old new survives committed law clean t, settles_all old new survives committed law stays clean t)
  durable_ok (Err e) committed stays clean = tt

  pub whole_ok : (a : Result (Unit {0}) Error) → (HasCleanDisk new → OnOk a (IsTrue old.in_transaction × Shows old new old.now old.now false)) → WouldLeaveStates old → OnOk a (LeavesStates new)
  whole_ok (Ok x) committed whole = settles_whole old new survives committed law whole
  whole_ok (Err e) committed whole = tt

module _ (old new : State) (survives : Survives old new (λ db. IsTrue old.in_transaction × (db ≡ old.now.trees))) (first : State) (it : IsGrouped first Begun old) (s : Office) (was : KeepsState first s) where
  pub undone_err : (a : Result (Unit {0}) Error) → (HasCleanDisk new → OnErr a (IsRolledBack old new)) → OnErr a (KeepsState new s)
  undone_err (Ok x) undone = tt
  undone_err (Err e) undone = goes_back old new survives first it undone s was

  pub crash_err : (a : Result (Unit {0}) Error) → (HasCleanDisk new → OnErr a (IsRolledBack old new)) → (t : Office) → HasCleanDisk new → OnErr a (MayLeave new t → MayLeave first t ⊎ ((t ≡ s) ⊎ WouldLeave old t))
  crash_err (Ok x) undone t clean = tt
  crash_err (Err e) undone t clean = may_leave_all old new survives first it undone s was t clean

  pub whole_err : (a : Result (Unit {0}) Error) → (HasCleanDisk new → OnErr a (IsRolledBack old new)) → HasCleanDisk new → LeavesStates first → WouldLeaveStates old → OnErr a (LeavesStates new)
  whole_err (Ok x) undone clean all would = tt
  whole_err (Err e) undone clean all would = goes_back_whole old new survives first it undone s was clean all would
