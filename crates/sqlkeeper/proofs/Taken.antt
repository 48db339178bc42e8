-- A change that ends with a commit, if the committed tables mean a state.
use Rattle.std.proofs.Common.{◌≡◌, inl, inr, false, IsTrue, Result, Ok, Err, OnOk, [], refl, sym, ap, subst, ◌∙◌}
use Rattle.sqlite_trees.specs.Tree.{Trees}
use Rattle.sqlite.specs.Effect.{Database}
use Rattle.sqlite.specs.State.{State, HasCleanDisk, Shows, KeepsCounts, Survives}
use Rattle.boxes.specs.State.{State as Office}
use Rattle.sqltables.specs.Schema.{Version}
use Rattle.sqltables.specs.Tables.{tables_of, NoneStaged}
use Rattle.sqltables.specs.Means.{Holds, IsWhole, Means, OfficeMeans, LeavesOnly, AddsOnly, LeavesLast}
use Rattle.sqlkeeper.specs.Emptying.{HasNoneStaged}

-- given only by the rows
pub by_rows : (v : Version) (db : Database) (office : Office) → Holds v db (tables_of office) → OfficeMeans v db.trees office
by_rows v db office h =
    let same : db ≡ record { schema = v.schema; trees = db.trees } = λ i. record { schema = h.schema i; trees = db.trees } in
    record { schema = refl; sound = subst IsWhole same h.sound; means = h.means }

module _ {X E : Type 0} (v : Version) (mid new : State) (office : Office) (holds : HasCleanDisk new → Holds v mid.now (tables_of office)) where
  pub made : (r : Result X E) → (HasCleanDisk new → OnOk r (IsTrue mid.in_transaction × Shows mid new mid.now mid.now false × KeepsCounts mid new × (new.marks ≡ []))) → OnOk r (Means v new office)
  made (Ok x) shows = λ clean.
      let shown = (shows clean).1 in
      record {
        autocommit = shown.mode;
        tables = λ is_open. record { holds = subst (λ d. Holds v d (tables_of office)) (sym shown.now_is) (holds clean); settled = shown.now_is ∙ sym shown.committed_is };
      }
  made (Err e) shows = tt

  pub durable : (r : Result X E) → (HasCleanDisk new → OnOk r (IsTrue mid.in_transaction × Shows mid new mid.now mid.now false × KeepsCounts mid new × (new.marks ≡ [])))
      → ((db : Trees) → IsTrue new.is_open → new.may_leave db → db ≡ new.committed.trees) → OnOk r (LeavesOnly v new office)
  durable (Ok x) shows law = λ clean trees leaves.
      let shown = (shows clean).1 in
      let last : trees ≡ mid.now.trees = law trees shown.is_open leaves ∙ ap (λ (d : Database). d.trees) shown.committed_is in
      subst (λ t. OfficeMeans v t office) (sym last) (by_rows v mid.now office (holds clean))
  durable (Err e) shows law = tt

pub crash : (v : Version) (old mid new : State) (office : Office) → (HasCleanDisk new → Holds v mid.now (tables_of office)) → Survives mid new (λ db. db ≡ mid.now.trees)
    → (HasCleanDisk new → (db : Trees) → mid.may_leave db → old.may_leave db) → AddsOnly v old new office
crash v old mid new office holds survives before = λ clean trees leaves. elim (survives.crash clean trees leaves) [
  | inl was ↦ inl (before clean trees was)
  | inr same ↦ inr (subst (λ t. OfficeMeans v t office) (sym same) (by_rows v mid.now office (holds clean)))
]

pub open_still : {X E : Type 0} (mid new : State) (r : Result X E) → (HasCleanDisk new → OnOk r (IsTrue mid.in_transaction × Shows mid new mid.now mid.now false × KeepsCounts mid new × (new.marks ≡ [])))
    → HasCleanDisk new → (IsTrue new.is_open → LeavesLast new) → OnOk r (IsTrue new.is_open × LeavesLast new)
open_still mid new (Ok x) shows clean law = let shown = (shows clean).1 in (shown.is_open, law shown.is_open)
open_still mid new (Err e) shows clean law = tt

-- the committed state has nothing staged
pub unstaged : {X E : Type 0} (mid new : State) → (HasCleanDisk new → NoneStaged mid.now.trees) → (r : Result X E) → (HasCleanDisk new → OnOk r (IsTrue mid.in_transaction × Shows mid new mid.now mid.now false × KeepsCounts mid new × (new.marks ≡ [])))
    → OnOk r (HasCleanDisk new → HasNoneStaged new)
unstaged mid new none (Ok x) shows = λ clean is_open. subst (λ (d : Database). NoneStaged d.trees) (sym (shows clean).1.now_is) (none clean)
unstaged mid new none (Err e) shows = tt
