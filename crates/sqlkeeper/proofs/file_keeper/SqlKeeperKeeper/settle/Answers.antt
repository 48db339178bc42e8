use Rattle.std.proofs.Common.{◌≡◌, ◌⊎◌, inl, inr, IsTrue, sym, subst, ◌∙◌, arith}
use Rattle.sqlite_trees.specs.Tree.{Trees}
use Rattle.sqlite.specs.Held.{state}
use Rattle.sqlkeeper.specs.Grouping.{IsGrouped, IsOpenIn, LeavesIn, LeavesStatesIn, MeansIn}
use Rattle.sqlkeeper.specs.declared.grouping.Group.{Group}
use Rattle.sqlkeeper.specs.declared.grouping.Group.TheVariants.{Alone, Begun}
use Rattle.sqlkeeper.proofs.GroupEnded.{crash_err, durable_ok, kept_ok, opened_ok, undone_err, whole_err, whole_ok}
use Rattle.sqlkeeper.proofs.RolledBack.{on_any_error}
use Rattle.sqlkeeper.proofs.Stays.{err_carried, ok_carried}
use Rattle.sqlkeeper.proofs.file_keeper.SqlKeeperKeeper.settle.Goals as goal

begun_alone : (group : Group) → group ≡ Begun → group ≡ Alone → ⊥
begun_alone group begun alone = let e : ◌≡◌ {A = Group} Begun Alone = sym begun ∙ alone in cc

pub returns-in-Begun-clause-settles : goal.returns-in-Begun-clause-settles
returns-in-Begun-clause-settles g c =
    let old = state g.S.Store c.args.self.now.conn in
    let new = state g.S.Store c.commit.new.conn in
    let was : c.args.self.now.group ≡ Begun = sym c.replace.ensures.value ∙ c.in-Begun.is in
    let now : c.replace.new.dest ≡ Alone = c.replace.ensures.after in
    let survives = c.commit.ensures.survives in
    let law : (db : Trees) → IsTrue new.is_open → new.may_leave db → db ≡ new.committed.trees = λ db is_open. g.met.S.Store.settled c.commit.new.conn.store db is_open in
    record {
      alone = now;
      idle = λ is. absurd (begun_alone _ was is);
      kept = λ s m. ok_carried c.commit.result c.counted.result c.counted.ensures.value (kept_ok old new survives law c.commit.result c.commit.ensures.committed s (subst (λ x. MeansIn x old s) was m)) (λ k. subst (λ x. MeansIn x new s) (sym now) k);
      undone = λ first s it m. err_carried c.commit.result c.counted.result c.counted.ensures.fault
          (undone_err old new survives (state g.S.Store first.conn) (subst (λ x. IsGrouped (state g.S.Store first.conn) x old) was it.2) s (subst (λ x. MeansIn x (state g.S.Store first.conn) s) it.0 m) c.commit.result c.commit.ensures.undone)
          (λ k. subst (λ x. MeansIn x new s) (sym now) k);
      honest = λ clean. omega (arith, clean, survives.clean);
      opened = λ clean open_before. ok_carried c.commit.result c.counted.result c.counted.ensures.value (opened_ok old new survives law c.commit.result (c.commit.ensures.committed clean)) (λ is_open. subst (λ x. IsOpenIn x new) (sym now) is_open);
      count = c.counted.ensures.count;
      room = c.counted.ensures.room;
      store = on_any_error c.counted.result tt;
      durable = λ clean. ok_carried c.commit.result c.counted.result c.counted.ensures.value (durable_ok old new survives law c.commit.result c.commit.ensures.committed (λ is_open. g.met.S.Store.stays c.commit.new.conn.store is_open) clean)
          (λ both t. (
            λ left. subst (λ x. LeavesIn x old t) (sym was) ((both t).0 (subst (λ x. LeavesIn x new t) now left)),
            λ would. subst (λ x. LeavesIn x new t) (sym now) ((both t).1 (subst (λ x. LeavesIn x old t) was would)),
          ));
      whole = λ clean all. ok_carried c.commit.result c.counted.result c.counted.ensures.value (whole_ok old new survives law c.commit.result c.commit.ensures.committed (subst (λ x. LeavesStatesIn x old) was all)) (λ w. subst (λ x. LeavesStatesIn x new) (sym now) w);
      crash = λ first s t it m clean. err_carried c.commit.result c.counted.result c.counted.ensures.fault
          (crash_err old new survives (state g.S.Store first.conn) (subst (λ x. IsGrouped (state g.S.Store first.conn) x old) was it.2) s (subst (λ x. MeansIn x (state g.S.Store first.conn) s) it.0 m) c.commit.result c.commit.ensures.undone t clean)
          (λ may left. elim (may (subst (λ x. LeavesIn x new t) now left)) [
            | inl earlier ↦ inl (subst (λ x. LeavesIn x (state g.S.Store first.conn) t) (sym it.0) earlier)
            | inr (inl same) ↦ inr (inl same)
            | inr (inr group) ↦ inr (inr (subst (λ x. LeavesIn x old t) (sym was) group))
          ]);
      whole_too = λ first s it m clean all would. err_carried c.commit.result c.counted.result c.counted.ensures.fault
          (whole_err old new survives (state g.S.Store first.conn) (subst (λ x. IsGrouped (state g.S.Store first.conn) x old) was it.2) s (subst (λ x. MeansIn x (state g.S.Store first.conn) s) it.0 m) c.commit.result c.commit.ensures.undone clean
          (subst (λ x. LeavesStatesIn x (state g.S.Store first.conn)) it.0 all) (subst (λ x. LeavesStatesIn x old) was would)) (λ w. subst (λ x. LeavesStatesIn x new) (sym now) w);
    }
