-- A connection that was tested and holds an office.
use Rattle.std.proofs.Common.{◌≡◌, ◌≢◌, false, IsTrue, sym, subst, ◌∙◌}
use Rattle.sqlite_trees.specs.Tree.{Trees}
use Rattle.sqlite.specs.State.{State, HasCleanDisk}
use Rattle.boxes.specs.State.{State as Office}
use Rattle.sqltables.specs.Schema.{Version, v2, s0}
use Rattle.sqltables.specs.Tables.{tables_of}
use Rattle.sqltables.specs.Means.{Means, Holds, OfficeMeans, LeavesOnly, IsBare}
use Rattle.sqltables.specs.Kept.{KeepsState}
use Rattle.sqlkeeper.proofs.Taken.{by_rows}
use Rattle.sqlaudit.specs.declared.opening.Finding.{Finding}
use Rattle.sqlaudit.specs.declared.opening.Finding.TheVariants.{Sound, Damaged}
use Rattle.sqlaudit.specs.Opened.{OnlyLooks, SeesSame, IsAtRest, AreOffice}

-- what is sound is not damaged
pub sound_is_whole : {finding : Finding} → finding ≡ Sound → finding ≢ Damaged
sound_is_whole is damaged = let e : ◌≡◌ {A = Finding} Sound Damaged = sym is ∙ damaged in cc

-- what was found in the old connection, which was only tested, is what both mean
module _ (v : Version) (old new : State) (is_open : IsTrue new.is_open) (same : SeesSame old new) (rest : IsAtRest new) (office : Office) (found : AreOffice v old.now office) where
  pub means_old : Means v old office
  means_old clean = record {
    autocommit = sym same.mode ∙ rest.autocommit;
    tables = λ was_open. record { holds = found.holds; settled = sym (same.now_is is_open) ∙ rest.settled is_open ∙ same.committed_is is_open };
  }

  pub means_new : Means v new office
  means_new clean = record {
    autocommit = rest.autocommit;
    tables = λ open_now. record { holds = subst (λ db. Holds v db (tables_of office)) (sym (same.now_is open_now)) found.holds; settled = rest.settled open_now };
  }

-- what was found in the old connection is kept by the new one
pub keeps_found : (old new : State) → IsTrue new.is_open → SeesSame old new → IsAtRest new → (office : Office) × AreOffice v2 old.now office → (office : Office) × KeepsState new office
keeps_found old new is_open same rest (office, found) = (office, record { means = means_new v2 old new is_open same rest office found; sound = found.sound })

-- a crash leaves the committed state, which is what the connection sees
pub leaves_kept : (s : State) (office : Office) → IsTrue s.is_open → ((trees : Trees) → s.may_leave trees → trees ≡ s.committed.trees) → Means v2 s office → LeavesOnly v2 s office
leaves_kept s office is_open only means clean trees left =
    let kept = (means clean).tables is_open in
    subst (λ t. OfficeMeans v2 t office) (sym (only trees left)) (by_rows v2 s.committed office (subst (λ db. Holds v2 db (tables_of office)) kept.settled kept.holds))

-- an office that was tested means the same as before
pub means_same : (v : Version) (old new : State) → (HasCleanDisk new → HasCleanDisk old) → OnlyLooks old new → (office : Office) → Means v old office → Means v new office
means_same v old new honest looks office means clean =
    let was = means (honest clean) in
    let same = looks clean in
    record {
      autocommit = same.mode ∙ was.autocommit;
      tables = λ is_open.
          let kept = was.tables (same.was_open is_open) in
          record {
            holds = subst (λ db. Holds v db (tables_of office)) (sym (same.now_is is_open)) kept.holds;
            settled = same.now_is is_open ∙ kept.settled ∙ sym (same.committed_is is_open);
          };
    }

pub keeps_same : (old new : State) → (HasCleanDisk new → HasCleanDisk old) → OnlyLooks old new → (office : Office) → KeepsState old office → KeepsState new office
keeps_same old new honest looks office keeps = record { means = means_same v2 old new honest looks office keeps.means; sound = keeps.sound }

-- the database is empty, and no transaction is pending
pub bare_of : (s : State) → s.now.schema ≡ s0 → s.in_transaction ≡ false → (IsTrue s.is_open → s.now ≡ s.committed) → IsBare s
bare_of s schema mode settled clean = record { autocommit = mode; bare = λ is_open. record { schema = schema; settled = settled is_open } }
