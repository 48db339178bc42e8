-- An office file that was tested and whose table `staged` was then emptied.
use Rattle.std.proofs.Common.{◌≡◌, IsTrue, sym, subst, ◌∙◌}
use Rattle.sqlite.specs.Effect.{Database}
use Rattle.sqlite.specs.State.{State, HasCleanDisk}
use Rattle.boxes.specs.State.{State as Office}
use Rattle.sqltables.specs.Schema.{v2}
use Rattle.sqltables.specs.Tables.{NoneStaged, IsEmptied}
use Rattle.sqltables.specs.Means.{Means, AddsOnly}
use Rattle.sqltables.specs.Kept.{KeepsState}
use Rattle.sqltables.specs.OneState.{one_kept}
use Rattle.sqlaudit.specs.Opened.{HasOurs, LeavesUntouched, IsAtRest, AreOffice}
use Rattle.sqlkeeper.specs.Emptying.{EmptiesStaged, HasNoneStaged}
use Rattle.sqlkeeper.specs.Sparing.{Spares}
use Rattle.sqlkeeper.proofs.AtRest.{means_old, means_new, keeps_same}
use Rattle.sqlkeeper.proofs.Migrated.{adds_still, looks_still, spares_still, untouched_never}

module _ (old mid : State) (looks : LeavesUntouched old mid) (stays : HasCleanDisk mid → IsTrue mid.is_open) (rest : HasCleanDisk mid → IsAtRest mid)
    (tells : HasOurs old → HasCleanDisk mid → IsTrue old.is_open → (office : Office) × AreOffice v2 old.now office) (new : State) (honest : HasCleanDisk new → HasCleanDisk mid) where
  pub found : HasOurs old → HasCleanDisk new → (s : Office) × KeepsState old s × KeepsState mid s
  found ours clean =
      let early = honest clean in
      let same = looks.same early in
      let is = tells ours early (same.was_open (stays early)) in (
        is.0,
        record { means = means_old v2 old mid (stays early) same (rest early) is.0 is.1; sound = is.1.sound },
        record { means = means_new v2 old mid (stays early) same (rest early) is.0 is.1; sound = is.1.sound },
      )

  -- the staged rows are gone
  pub emptied : ((s : Office) → Means v2 mid s → EmptiesStaged mid new) → HasOurs old → EmptiesStaged old new
  emptied gone ours clean =
      let it = gone (found ours clean).0 (found ours clean).2.means clean in
      let same = looks.same (honest clean) in
      record {
        was_open = λ is_open. same.was_open (it.was_open is_open);
        now_is = λ is_open. subst (λ (d : Database). IsEmptied d new.now) (same.now_is (it.was_open is_open)) (it.now_is is_open);
        committed_is = λ is_open. subst (λ (d : Database). IsEmptied d new.committed) (same.committed_is (it.was_open is_open)) (it.committed_is is_open);
        mode = it.mode ∙ same.mode;
      }

  -- if nothing was staged, the file is unchanged
  pub spared : ((s : Office) → Means v2 mid s → HasNoneStaged mid → LeavesUntouched mid new) → HasOurs old → HasNoneStaged old → LeavesUntouched old new
  spared spares ours none = record {
    same = λ clean. looks_still old mid looks new honest (still clean).same clean;
    crash = λ clean trees left. looks.crash (honest clean) trees ((still clean).crash clean trees left);
    honest = λ clean. looks.honest (honest clean);
  }
    where
      still : HasCleanDisk new → LeavesUntouched mid new
      still clean =
          let same = looks.same (honest clean) in
          spares (found ours clean).0 (found ours clean).2.means (λ is_open. subst (λ (d : Database). NoneStaged d.trees) (sym (same.now_is is_open)) (none (same.was_open is_open)))

  -- a crash leaves what it could leave before, or tables that mean the office
  pub failed : ((s : Office) → Means v2 mid s → AddsOnly v2 mid new s) → (s : Office) → KeepsState old s → AddsOnly v2 old new s
  failed adds s keeps = adds_still old mid looks new honest s (adds s (keeps_same old mid looks.honest looks.same s keeps).means)

  -- a crash leaves what it could leave before, or again the office that was found
  pub spares : ((s : Office) → Means v2 mid s → AddsOnly v2 mid new s) → (Was : Office → Type 0) → ((s : Office) → KeepsState old s → Was s) → HasOurs old → Spares old new Was
  spares adds Was was ours = spares_still old mid looks new honest Was (λ clean.
      let it = found ours clean in
      (it.0, was it.0 it.1, it.1.sound, adds it.0 it.2.means))

  module _ (made : (s : Office) → Means v2 mid s → Means v2 new s) where
    pub accepted : HasOurs old → HasCleanDisk new → (s : Office) × KeepsState old s × KeepsState new s
    accepted ours clean =
        let it = found ours clean in
        (it.0, it.1, record { means = made it.0 it.2.means; sound = it.2.sound })

    pub crashes : ((s : Office) → Means v2 mid s → AddsOnly v2 mid new s) → (HasCleanDisk new → IsTrue new.is_open) → HasOurs old → (s : Office) → KeepsState new s → AddsOnly v2 old new s
    crashes adds opened ours s keeps clean trees left =
        let it = accepted ours clean in
        let one : it.0 ≡ s = one_kept new it.0 s clean (opened clean) it.2 keeps in
        subst (λ t. AddsOnly v2 old new t) one (failed adds it.0 it.1) clean trees left

  pub means_still : ((s : Office) → Means v2 mid s → Means v2 new s) → (s : Office) → KeepsState old s → KeepsState new s
  means_still made s keeps = record { means = made s (keeps_same old mid looks.honest looks.same s keeps).means; sound = keeps.sound }

  -- a file that is not an office's is unchanged
  pub others : HasOurs old → ((s : Office) → KeepsState old s → ⊥) → LeavesUntouched old new
  others ours none = untouched_never old mid looks new honest (λ clean. none (early clean).0 (early clean).1)
    where
      early : HasCleanDisk mid → (s : Office) × KeepsState old s
      early clean =
          let same = looks.same clean in
          let is = tells ours clean (same.was_open (stays clean)) in
          (is.0, record { means = means_old v2 old mid (stays clean) same (rest clean) is.0 is.1; sound = is.1.sound })
