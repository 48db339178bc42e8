-- A change within a group and outside.
use Rattle.std.proofs.Common.{◌≡◌, ◌⊎◌, inl, inr, IsTrue, Result, Ok, Err, IfErr, OnOk, refl, sym, subst, ◌∙◌, arith}
use Rattle.std.specs.Prelude.{OnErr, false}
use Rattle.std.proofs.lemmas.Bool.{false≢true}
use Rattle.sqlite_trees.specs.Tree.{Trees}
use Rattle.sqlite.specs.declared.error.Error.{Error}
use Rattle.sqlite.specs.State.{State, HasCleanDisk, Survives}
use Rattle.boxes.specs.State.{State as Office}
use Rattle.boxes.specs.Sound.{IsSound}
use Rattle.sqltables.specs.Schema.{v2}
use Rattle.sqltables.specs.Tables.{tables_of}
use Rattle.sqltables.specs.Means.{AddsOnly, IsRunning, LeavesLast, LeavesOnly, Pends}
use Rattle.sqltables.specs.Kept.{LeavesStates, MayLeave, RowsKeep}
use Rattle.sqltables.specs.OneState.{one_left}
use Rattle.sqlkeeper.specs.Grouping.{LeavesIn, LeavesOneIn, LeavesOnlyIn, LeavesStatesIn, PendsState}
use Rattle.sqlkeeper.specs.declared.grouping.Group.{Group}
use Rattle.sqlkeeper.specs.declared.grouping.Group.TheVariants.{Alone, Idle, Begun}
use Rattle.sqlkeeper.proofs.GroupAsked.{would_mean}
use Rattle.sqlkeeper.proofs.Taken.{by_rows}

-- ---- in a transaction of its own

-- a crash leaves the committed state and no other
pub left_alone : (new : State) (after : Office) → IsSound after → HasCleanDisk new → LeavesLast new → LeavesOnly v2 new after → LeavesOnlyIn Alone new after
left_alone new after sound clean last durable = record {
  there = record { trees = new.committed.trees; left = last; keep = record { means = durable clean new.committed.trees last; sound = sound } };
  alone = λ t leaves. one_left leaves.trees t after leaves.keep (record { means = durable clean leaves.trees leaves.left; sound = sound });
  whole = λ again trees left. (after, record { means = durable clean trees left; sound = sound });
}

pub only_own : (new : State) (after : Office) (r : Result (Unit {0}) Error) → IsSound after → HasCleanDisk new → OnOk r (IsTrue new.is_open × LeavesLast new) → OnOk r (LeavesOnly v2 new after) → OnOk r (LeavesOnlyIn Alone new after)
only_own new after (Err e) sound clean opened durable = tt
only_own new after (Ok x) sound clean opened durable = left_alone new after sound clean opened.1 durable

pub one_own : (old new : State) (s after : Office) (r : Result (Unit {0}) Error) → IsSound after → HasCleanDisk new → HasCleanDisk old → AddsOnly v2 old new after → OnErr r (LeavesOneIn Alone old Alone new s after)
one_own old new s after (Ok x) sound clean before adds = tt
one_own old new s after (Err e) sound clean before adds = record {
  either = λ t leaves. elim (adds clean leaves.trees leaves.left) [
    | inl was ↦ inl (record { trees = leaves.trees; left = was; keep = leaves.keep })
    | inr means ↦ inr (inr (one_left leaves.trees t after leaves.keep (record { means = means; sound = sound })))
  ];
  whole = λ all again trees left. elim (adds clean trees left) [
    | inl was ↦ all before trees was
    | inr means ↦ (after, record { means = means; sound = sound })
  ];
}

-- ---- in the transaction of a group

pub only_inside : {T : Type 0} (new : State) (after : Office) (r : Result T Error) → IsSound after → HasCleanDisk new → OnOk r (IsRunning new) → OnOk r (Pends v2 new (tables_of after)) → OnOk r (LeavesOnlyIn Begun new after)
only_inside new after (Err e) sound clean running pends = tt
only_inside new after (Ok x) sound clean running pends =
    let keep : RowsKeep new.now.trees after = record { means = by_rows v2 new.now after (pends clean running.0 running.1); sound = sound } in
    record {
      there = record { inside = running.0; keep = keep };
      alone = λ t leaves. would_mean new after t (record { pends = pends; sound = sound }) clean running.1 leaves;
      whole = λ again inside. (after, keep);
    }

-- nothing is left of a transaction that is over
pub one_inside : {T : Type 0} (before : Group) (old new : State) (s after : Office) (r : Result T Error) → OnErr r (new.in_transaction ≡ false) → OnErr r (LeavesOneIn before old Begun new s after)
one_inside before old new s after (Ok x) over = tt
one_inside before old new s after (Err e) over = record {
  either = λ t leaves. absurd (false≢true (sym over ∙ leaves.inside));
  whole = λ all clean inside. absurd (false≢true (sym over ∙ inside));
}

-- no transaction was begun
pub one_idle : (old new : State) (s after : Office) → HasCleanDisk new → Survives old new (λ _. ⊥) → LeavesOneIn Idle old Idle new s after
one_idle old new s after clean survives = record {
  either = λ t leaves. inl (record { trees = leaves.trees; left = elim (survives.crash clean leaves.trees leaves.left) [ inl was ↦ was | inr none ↦ absurd none ]; keep = leaves.keep });
  whole = λ all again trees left. elim (survives.crash clean trees left) [
    | inl was ↦ all (omega (arith, clean, survives.clean)) trees was
    | inr none ↦ absurd none
  ];
}

pub means_after : {T : Type 0} (new : State) (after : Office) (r : Result T Error) → IsSound after → OnOk r (Pends v2 new (tables_of after)) → OnOk r (PendsState new after)
means_after new after (Ok x) sound pends = record { pends = pends; sound = sound }
means_after new after (Err e) sound pends = tt

pub means_still : {T : Type 0} (new : State) (s : Office) (r : Result T Error) → IsSound s → OnErr r (Pends v2 new (tables_of s)) → OnErr r (PendsState new s)
means_still new s (Ok x) sound pends = tt
means_still new s (Err e) sound pends = record { pends = pends; sound = sound }
