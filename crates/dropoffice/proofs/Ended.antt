-- The rows that an office file keeps, and what an open finds.
use Rattle.std.proofs.Common.{◌≡◌, ◌∙◌, ⊎_elim, inl, inr, sym, subst, ap, IsTrue, false}
use Rattle.sqlite_disk.specs.declared.Disk as disk
use Rattle.sqlite.specs.Effect.{Database}
use Rattle.sqlite.specs.Held.{Held, state}
use Rattle.sqlite.proofs.StateLemmas.{clean_if_open}
use Rattle.sqlite_trees.specs.declared.store.Store.{Ghosts}
use Rattle.sqlite.specs.State.{State, HasCleanDisk, Opens, IsLive}
use Rattle.sqlite.specs.Start.{FindsIn}
use Rattle.sqlite.specs.Recovery.{Image}
use Rattle.sqlite.specs.Schema.{Schema}
use Rattle.sqlite.specs.Files.{AreFoundIn}
use Rattle.sqlite.specs.Tree.{Trees}
use Rattle.boxes.specs.State.{State as Office}
use Rattle.sqltables.specs.Schema.{Version, v1, v2}
use Rattle.sqltables.specs.Tables.{Tables, tables_of}
use Rattle.sqltables.specs.Means.{Holds, Means}
use Rattle.sqltables.specs.Kept.{KeepsState, RowsKeep}
use Rattle.sqlaudit.specs.Opened.{HasOurs, IsOurs, OnlyLooks}
use Rattle.sqlkeeper.specs.Sparing.{Spares}
use Rattle.sqlkeeper.specs.Versions.{IsOfficeFile, KeepsFirst}
use Rattle.dropoffice.specs.Holding.{AreHeld, HoldsEither, HoldsFirst, HoldsOurs, HoldsState, LeavesHeld, ShowsHeld}
use Rattle.dropoffice.specs.Working.{SparesShown, StillSees, WasOurs}
use Rattle.dropoffice.specs.Leaving.{IsSpared}
use Rattle.dropoffice.specs.declared.left.Left.{Left}
use Rattle.dropoffice.specs.declared.left.Left.TheVariants as left

rows_of : (v : Version) (db : Database) (tables : Tables) → Holds v db tables → Holds v (record { schema = v.schema; trees = db.trees }) tables
rows_of v db tables holds = subst (λ (schema : Schema). Holds v (record { schema = schema; trees = db.trees }) tables) holds.schema holds

means_rows : (v : Version) (s : State) (office : Office) → HasCleanDisk s → IsTrue s.is_open → Means v s office → Holds v (record { schema = v.schema; trees = s.committed.trees }) (tables_of office)
means_rows v s office clean is_open means =
    let at = (means clean).tables is_open in
    rows_of v s.committed (tables_of office) (subst (λ (d : Database). Holds v d (tables_of office)) at.settled at.holds)

pub rows_kept : (s : State) (office : Office) → HasCleanDisk s → IsTrue s.is_open → KeepsState s office → RowsKeep s.committed.trees office
rows_kept s office clean is_open keeps = record { means = means_rows v2 s office clean is_open keeps.means; sound = keeps.sound }

module _ (image : Image) (s : State) (opened : HasCleanDisk s → Opens s × IsLive s) (found : HasCleanDisk s → FindsIn image s) where
  pub was_ours : HoldsOurs image → WasOurs s
  was_ours ours clean is_open =
      let it = opened clean in
      subst IsOurs (sym (ap (λ (d : Database). d.schema) it.0.clean)) (ours s.committed (found clean).reads (it.1 is_open).1)

  pub held : HasCleanDisk s → (office : Office) → KeepsState s office → HoldsState image office
  held clean office keeps = record {
    trees = s.committed.trees;
    found = (found clean).reads;
    holds = (found clean).holds;
    keep = rows_kept s office clean (opened clean).0.is_open keeps;
  }

  pub held_first : HasCleanDisk s → (office : Office) → KeepsFirst s office → HoldsFirst image office
  held_first clean office keeps = record {
    trees = s.committed.trees;
    found = (found clean).reads;
    holds = (found clean).holds;
    keep = record { means = means_rows v1 s office clean (opened clean).0.is_open keeps.means; sound = keeps.sound; short = keeps.short };
  }

  pub held_either : HasCleanDisk s → (office : Office) → IsOfficeFile s office → HoldsEither image office
  held_either clean office file = ⊎_elim (λ (first : KeepsFirst s office). inl (held_first clean office first)) (λ (second : KeepsState s office). inr (held clean office second)) file

  -- a connection that was only looked at shows what the files held
  untouched : (new : State) → StillSees s new → HasCleanDisk new → IsTrue new.is_open → FindsIn image new
  untouched new sees clean is_open =
      let (early, same) = sees clean is_open in
      let at = found early in
      let trees = ap (λ (d : Database). d.trees) (same.committed_is is_open) in
      record { holds = λ db holds. trees ∙ at.holds db holds; reads = subst (λ (x : Trees). AreFoundIn image x) (sym trees) at.reads }

  held_now : HasCleanDisk s → AreHeld image s.committed.trees
  held_now clean = let at = found clean in record { found = at.reads; holds = at.holds }

  -- a crash leaves what the files held, or an office like this
  pub leaves_held : (new : State) (Now Like : Office → Type 0) → (HasCleanDisk s → (office : Office) → Now office → Like office) → SparesShown s new Now → HasCleanDisk new → LeavesHeld image Like new
  leaves_held new Now Like so spares clean =
      let early = spares.honest clean in
      λ trees may. ⊎_elim
      (λ (same : trees ≡ s.committed.trees). inl (subst (AreHeld image) (sym same) (held_now early)))
      (λ (it : (office : Office) × Now office × RowsKeep trees office). inr (it.0, so early it.0 it.1, it.2))
      (spares.crash clean (opened early).0.is_open trees may)

  pub shows_held : (new : State) (Now Was : Office → Type 0) → (HasCleanDisk s → (office : Office) → Now office → Was office) → StillSees s new → SparesShown s new Now → HasCleanDisk new → ShowsHeld image Was new
  shows_held new Now Was so sees spares clean = record { shows = untouched new sees clean; crash = leaves_held new Now Was so spares clean }

-- a store that is shut as soon as the disk has not returned what was written
module _ {S : Type 0} (g : Ghosts S) (conn : Held S) (shut : (g.view conn.store).is_clean ≡ false → (g.view conn.store).is_open ≡ false) where
  pub clean_open : IsTrue (state g conn).is_open → HasCleanDisk (state g conn)
  clean_open = clean_if_open (g.view conn.store) shut

  pub ours_open : WasOurs (state g conn) → HasOurs (state g conn)
  ours_open was is_open = was (clean_open is_open) is_open

  -- what a failed open spares, if an open store leaves nothing but the last commit
  pub spares_shown : (new : State) (Was : Office → Type 0) → ((db : Trees) → IsTrue (state g conn).is_open → (state g conn).may_leave db → db ≡ (state g conn).committed.trees)
      → Spares (state g conn) new Was → SparesShown (state g conn) new Was
  spares_shown new Was settled spares = record {
    honest = spares.honest;
    crash = λ clean is_open trees may. ⊎_elim (λ (was : (state g conn).may_leave trees). inl (settled trees is_open was)) (λ (it : (office : Office) × Was office × RowsKeep trees office). inr it) (spares.crash clean trees may);
  }

  pub still_sees : (new : State) → OnlyLooks (state g conn) new → StillSees (state g conn) new
  still_sees new looks clean is_open = let same = looks clean in (clean_open (same.was_open is_open), same)

-- where no connection is handed back, whatever holds of one
pub spared_more : {F D : Type 0} {g : disk.Ghosts D} (image : Image) (start : F) (Like : State → Type 0) (rest : Left F D g) → IsSpared image start (λ conn. ⊥) rest → IsSpared image start Like rest
spared_more image start Like (left.Unopened back) it = it
spared_more image start Like left.Lost it = it
spared_more image start Like (left.Refused refused) it = it
spared_more image start Like (left.Looked conn) it = absurd it
spared_more image start Like (left.Closed files) it = it
spared_more image start Like (left.Unclosed store) it = it
