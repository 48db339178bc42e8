use Rattle.std.proofs.Common.{◌≡◌, ◌≢◌, OnOk, sym, subst, ◌∙◌}
use Rattle.std.specs.Prelude.{OnErr}
use Rattle.sqlite.specs.Held.{state}
use Rattle.boxes.specs.State.{State}
use Rattle.sqlkeeper.specs.Grouping.{IsGrouped, LeavesOneIn, LeavesOnlyIn, MeansIn, PendsState}
use Rattle.sqlkeeper.specs.declared.grouping.Group.{Group}
use Rattle.sqlkeeper.specs.declared.grouping.Group.TheVariants.{Alone, Idle, Begun}
use Rattle.sqlkeeper.proofs.GroupAsked.{grouped_on}
use Rattle.sqlkeeper.proofs.GroupEnded.{grouped_still, pends_first}
use Rattle.sqlkeeper.proofs.GroupMade.{means_after, one_idle, one_inside, one_own, only_inside, only_own}
use Rattle.sqlkeeper.proofs.RolledBack.{on_any_error}
use Rattle.sqlkeeper.proofs.Stays.{kept_then}
use Rattle.sqlkeeper.proofs.file_keeper.SqlKeeper.make.Goals as goal

begun_alone : (group : Group) → group ≡ Begun → group ≡ Alone → ⊥
begun_alone group begun alone = let e : ◌≡◌ {A = Group} Begun Alone = sym begun ∙ alone in cc

idle_alone : (group : Group) → group ≡ Idle → group ≡ Alone → ⊥
idle_alone group idle alone = let e : ◌≡◌ {A = Group} Idle Alone = sym idle ∙ alone in cc

-- ---- outside a group

pub returns-in-Alone-clause-made : goal.returns-in-Alone-clause-made
returns-in-Alone-clause-made g c s after means sound change sound_after =
    let old = state g.S.Store c.args.self.now.conn in
    let new = state g.S.Store c.apply_change.new.conn in
    let k = subst (λ x. MeansIn x old s) c.in-Alone.is means in
    subst (λ x. OnOk c.apply_change.result (MeansIn x new after)) (sym c.in-Alone.is) (kept_then new after c.apply_change.result sound_after (c.apply_change.ensures.made s after k.means sound change))

pub returns-in-Alone-clause-durable : goal.returns-in-Alone-clause-durable
returns-in-Alone-clause-durable g c s after means sound change sound_after clean =
    let old = state g.S.Store c.args.self.now.conn in
    let new = state g.S.Store c.apply_change.new.conn in
    let k = subst (λ x. MeansIn x old s) c.in-Alone.is means in
    subst (λ x. OnOk c.apply_change.result (LeavesOnlyIn x new after)) (sym c.in-Alone.is)
    (only_own new after c.apply_change.result sound_after clean (c.apply_change.ensures.opened clean) (c.apply_change.ensures.durable s after k.means sound change))

pub returns-in-Alone-clause-crash : goal.returns-in-Alone-clause-crash
returns-in-Alone-clause-crash g c s after means sound change sound_after clean =
    let old = state g.S.Store c.args.self.now.conn in
    let new = state g.S.Store c.apply_change.new.conn in
    let k = subst (λ x. MeansIn x old s) c.in-Alone.is means in
    subst (λ x. OnErr c.apply_change.result (LeavesOneIn x old x new s after)) (sym c.in-Alone.is)
    (one_own old new s after c.apply_change.result sound_after clean (c.apply_change.ensures.honest clean) (c.apply_change.ensures.crash s after k.means sound change))

-- ---- in the transaction of the group

pub returns-in-Begun-clause-made : goal.returns-in-Begun-clause-made
returns-in-Begun-clause-made g c s after means sound change sound_after =
    let old = state g.S.Store c.args.self.now.conn in
    let new = state g.S.Store c.apply_in_group.new.conn in
    let k = subst (λ x. MeansIn x old s) c.in-Begun.is means in
    subst (λ x. OnOk c.apply_in_group.result (MeansIn x new after)) (sym c.in-Begun.is) (means_after new after c.apply_in_group.result sound_after (c.apply_in_group.ensures.made s after k.pends sound change))

pub returns-in-Begun-clause-durable : goal.returns-in-Begun-clause-durable
returns-in-Begun-clause-durable g c s after means sound change sound_after clean =
    let old = state g.S.Store c.args.self.now.conn in
    let new = state g.S.Store c.apply_in_group.new.conn in
    let k = subst (λ x. MeansIn x old s) c.in-Begun.is means in
    subst (λ x. OnOk c.apply_in_group.result (LeavesOnlyIn x new after)) (sym c.in-Begun.is)
    (only_inside new after c.apply_in_group.result sound_after clean (c.apply_in_group.ensures.rest.running clean) (c.apply_in_group.ensures.made s after k.pends sound change))

pub returns-in-Begun-clause-group : goal.returns-in-Begun-clause-group
returns-in-Begun-clause-group g c =
    let old = state g.S.Store c.args.self.now.conn in
    let new = state g.S.Store c.apply_in_group.new.conn in
    record {
      alone = λ is. absurd (begun_alone _ c.in-Begun.is is);
      same = λ first it. (
        it.0,
        it.1,
        subst (λ x. IsGrouped (state g.S.Store first.conn) x new) (sym c.in-Begun.is)
            (grouped_on (state g.S.Store first.conn) old new c.apply_in_group.result c.apply_in_group.ensures.rest (subst (λ x. IsGrouped (state g.S.Store first.conn) x old) c.in-Begun.is it.2)),
      );
    }

-- ---- the first change of a group

pub returns-in_ok-begin-in-Idle-clause-made : goal.returns-in_ok-begin-in-Idle-clause-made
returns-in_ok-begin-in-Idle-clause-made g c s after means sound change sound_after =
    let old = state g.S.Store c.args.self.now.conn in
    let mid = state g.S.Store c.begin.new.conn in
    let new = state g.S.Store c.apply_in_group-in-Idle.new.conn in
    let k = subst (λ x. MeansIn x old s) c.in-Idle.is means in
    let first = pends_first old mid (λ clean. c.in_ok-begin-in-Idle.ensures.free clean) (λ clean. c.in_ok-begin-in-Idle.ensures.begun clean) c.begin.ensures.survives s k in
    means_after new after c.apply_in_group-in-Idle.result sound_after (c.apply_in_group-in-Idle.ensures.made s after first.pends sound change)

pub returns-in_ok-begin-in-Idle-clause-durable : goal.returns-in_ok-begin-in-Idle-clause-durable
returns-in_ok-begin-in-Idle-clause-durable g c s after means sound change sound_after clean =
    let old = state g.S.Store c.args.self.now.conn in
    let mid = state g.S.Store c.begin.new.conn in
    let new = state g.S.Store c.apply_in_group-in-Idle.new.conn in
    let k = subst (λ x. MeansIn x old s) c.in-Idle.is means in
    let first = pends_first old mid (λ clean. c.in_ok-begin-in-Idle.ensures.free clean) (λ clean. c.in_ok-begin-in-Idle.ensures.begun clean) c.begin.ensures.survives s k in
    only_inside new after c.apply_in_group-in-Idle.result sound_after clean (c.apply_in_group-in-Idle.ensures.rest.running clean) (c.apply_in_group-in-Idle.ensures.made s after first.pends sound change)

pub returns-in_ok-begin-in-Idle-clause-crash : goal.returns-in_ok-begin-in-Idle-clause-crash
returns-in_ok-begin-in-Idle-clause-crash g c s after means sound change sound_after clean =
    one_inside c.args.self.now.group (state g.S.Store c.args.self.now.conn) (state g.S.Store c.apply_in_group-in-Idle.new.conn) s after c.apply_in_group-in-Idle.result (c.apply_in_group-in-Idle.ensures.rest.over clean)

pub returns-in_err-begin-in-Idle-clause-crash : goal.returns-in_err-begin-in-Idle-clause-crash
returns-in_err-begin-in-Idle-clause-crash g c s after means sound change sound_after clean =
    let old = state g.S.Store c.args.self.now.conn in
    let new = state g.S.Store c.begin.new.conn in
    on_any_error c.from_residual.result (subst (λ x. LeavesOneIn x old x new s after) (sym c.in-Idle.is) (one_idle old new s after clean c.begin.ensures.survives))

pub returns-in_err-begin-in-Idle-clause-group : goal.returns-in_err-begin-in-Idle-clause-group
returns-in_err-begin-in-Idle-clause-group g c =
    let old = state g.S.Store c.args.self.now.conn in
    let new = state g.S.Store c.begin.new.conn in
    record {
      alone = λ is. absurd (idle_alone _ c.in-Idle.is is);
      same = λ first it. (
        it.0,
        it.1,
        subst (λ x. IsGrouped (state g.S.Store first.conn) x new) (sym c.in-Idle.is)
            (grouped_still (state g.S.Store first.conn) old new c.begin.ensures.survives (λ clean. c.in_err-begin-in-Idle.ensures.kept clean) (subst (λ x. IsGrouped (state g.S.Store first.conn) x old) c.in-Idle.is it.2)),
      );
    }
