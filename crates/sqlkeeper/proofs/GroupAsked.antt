-- A question within a group and outside.
use Rattle.std.proofs.Common.{◌≡◌, ◌⊎◌, inl, inr, IsTrue, Result, Ok, Err, IfOk, OnOk, refl, sym, subst, ◌∙◌, arith}
use Rattle.std.specs.Prelude.{◌≢◌, OnErr, false}
use Rattle.std.proofs.lemmas.Bool.{false≢true}
use Rattle.sqlite_trees.specs.Tree.{Trees}
use Rattle.sqlite.specs.declared.error.Error.{Error}
use Rattle.sqlite.specs.State.{State, HasCleanDisk, KeepsCommit}
use Rattle.boxes.specs.State.{State as Office}
use Rattle.boxes.specs.Sound.{IsSound}
use Rattle.sqltables.specs.Schema.{v2}
use Rattle.sqltables.specs.Tables.{tables_of}
use Rattle.sqltables.specs.Means.{AddsOnly, Holds, IsRunning, Means, Pends}
use Rattle.sqltables.specs.Kept.{KeepsState, LeavesStates, MayLeave, RowsKeep}
use Rattle.sqltables.specs.OneState.{one_left}
use Rattle.sqlkeeper.specs.Asking.{AnswersOf, LeavesOffice}
use Rattle.sqlkeeper.specs.Grouping.{AsksIn, GoesOnInGroup, HasBase, IsBasedOn, IsGrouped, LeavesIn, LeavesStatesIn, MeansIn, PendsState, WouldLeave}
use Rattle.sqlkeeper.specs.declared.grouping.Group.{Group}
use Rattle.sqlkeeper.specs.declared.grouping.Group.TheVariants.{Alone, Idle, Begun}
use Rattle.sqlkeeper.proofs.Taken.{by_rows}

-- ---- a transaction of its own

module _ {T : Type 0} (old new : State) (result : Result T Error) (left : LeavesOffice old new result) where
  kept : (s : Office) → KeepsState old s → KeepsState new s
  kept s k = record { means = left.kept s k.means; sound = k.sound }

  crash_own : (s t : Office) → KeepsState old s → HasCleanDisk new → MayLeave new t → MayLeave old t ⊎ (t ≡ s)
  crash_own s t k clean leaves = elim (left.crash s k.means clean leaves.trees leaves.left) [
    | inl was ↦ inl (record { trees = leaves.trees; left = was; keep = leaves.keep })
    | inr means ↦ inr (one_left leaves.trees t s leaves.keep (record { means = means; sound = k.sound }))
  ]

  whole_own : (s : Office) → KeepsState old s → HasCleanDisk new → LeavesStates old → LeavesStates new
  whole_own s k clean all again trees leaves = elim (left.crash s k.means clean trees leaves) [
    | inl was ↦ all (left.honest clean) trees was
    | inr means ↦ (s, record { means = means; sound = k.sound })
  ]

  added : (first : State) (s : Office) → Means v2 first s → Means v2 old s → AddsOnly v2 first old s → AddsOnly v2 first new s
  added first s was meant before clean trees leaves = elim (left.crash s meant clean trees leaves) [
    | inl earlier ↦ before (left.honest clean) trees earlier
    | inr means ↦ inr means
  ]

  pub asks_own : (group : Group) → group ≢ Begun → AsksIn group old new result
  asks_own Alone not = record {
    same = kept;
    honest = left.honest;
    opened = left.opened;
    crash = crash_own;
    whole = whole_own;
  }
  asks_own Idle not = record {
    same = kept;
    honest = left.honest;
    opened = left.opened;
    crash = crash_own;
    whole = whole_own;
  }
  asks_own Begun not = absurd (not refl)

  pub grouped_own : (group : Group) → group ≢ Begun → (first : State) → IsGrouped first group old → IsGrouped first group new
  grouped_own Alone not first it = record { honest = λ clean. it.honest (left.honest clean); base = λ s was. left.kept s (it.base s was); crash = λ s was. added first s was (it.base s was) (it.crash s was) }
  grouped_own Idle not first it = record { honest = λ clean. it.honest (left.honest clean); base = λ s was. left.kept s (it.base s was); crash = λ s was. added first s was (it.base s was) (it.crash s was) }
  grouped_own Begun not first it = absurd (not refl)

-- ---- the transaction of a group

-- what was committed is still the base of the group, and a crash leaves nothing new
pub grouped_on : {T : Type 0} (first old new : State) (result : Result T Error) → GoesOnInGroup old new result → IsGrouped first Begun old → IsGrouped first Begun new
grouped_on first old new result goes it = record {
  honest = λ clean. it.honest (before clean);
  base = λ s was clean is_open.
      let keep = goes.keeps clean in
      subst (λ d. Holds v2 d (tables_of s)) (sym (keep.committed is_open)) (it.base s was (before clean) (keep.was_open is_open));
  crash = λ s was clean trees leaves. elim (goes.survives.crash clean trees leaves) [
    | inl earlier ↦ it.crash s was (before clean) trees earlier
    | inr none ↦ absurd none
  ];
}
  where
    before : HasCleanDisk new → HasCleanDisk old
    before clean = omega (arith, clean, goes.survives.clean)

-- a transaction that goes on is open
pub open_inside : {T : Type 0} (new : State) (result : Result T Error) → OnOk result (IsRunning new) → OnErr result (new.in_transaction ≡ false) → IsTrue new.in_transaction → IsTrue new.is_open
open_inside new (Ok x) running over inside = running.1
open_inside new (Err e) running over inside = absurd (false≢true (sym over ∙ inside))

-- rows that a commit now would leave
pub would_mean : (s : State) (office t : Office) → PendsState s office → HasCleanDisk s → IsTrue s.is_open → WouldLeave s t → t ≡ office
would_mean s office t k clean is_open leaves =
    one_left s.now.trees t office leaves.keep (record { means = by_rows v2 s.now office (k.pends clean leaves.inside is_open); sound = k.sound })

module _ {T : Type 0} (old new : State) (result : Result T Error) (goes : GoesOnInGroup old new result) (still : (s : Office) → Pends v2 old (tables_of s) → Pends v2 new (tables_of s)) where
  opened : HasCleanDisk new → IsTrue new.in_transaction → IsTrue new.is_open
  opened clean inside = open_inside new result (goes.running clean) (goes.over clean) inside

  pub asks_inside : AsksIn Begun old new result
  asks_inside = record {
    same = λ s k. record { pends = still s k.pends; sound = k.sound };
    honest = λ clean. omega (arith, clean, goes.survives.clean);
    opened = goes.running;
    crash = λ s t k clean leaves. inr (would_mean new s t (record { pends = still s k.pends; sound = k.sound }) clean (opened clean leaves.inside) leaves);
    whole = λ s k clean all again inside. (s, record { means = by_rows v2 new.now s (still s k.pends clean inside (opened clean inside)); sound = k.sound });
  }

pub founds : {T : Type 0} (group : Group) (old new : State) (result : Result T Error) (Says : Office → T → Type 0) → (group ≢ Begun → AnswersOf old new result Says)
    → (group ≡ Begun → (s : Office) → Pends v2 old (tables_of s) → IsSound s → HasCleanDisk new → IfOk result (Says s)) → (s : Office) → MeansIn group old s → IsSound s → HasCleanDisk new → IfOk result (Says s)
founds Alone old new result Says own inside s k sound clean = own (λ is. cc) s k.means sound clean
founds Idle old new result Says own inside s k sound clean = own (λ is. cc) s k.means sound clean
founds Begun old new result Says own inside s k sound clean = inside refl s k.pends sound clean

pub not_begun : (group : Group) → (group ≡ Alone) ⊎ (group ≡ Idle) → group ≢ Begun
not_begun group (inl alone) begun = let e : ◌≡◌ {A = Group} Alone Begun = sym alone ∙ begun in cc
not_begun group (inr idle) begun = let e : ◌≡◌ {A = Group} Idle Begun = sym idle ∙ begun in cc
