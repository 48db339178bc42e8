use Rattle.std.proofs.Common.{subst}
use Rattle.sqlite.specs.Held.{state}
use Rattle.sqlkeeper.specs.Grouping.{IsOpenIn}
use Rattle.sqlkeeper.specs.declared.grouping.Group.{Group}
use Rattle.dropoffice.proofs.Ended.{clean_open, ours_open, spares_shown, still_sees}
use Rattle.dropoffice.proofs.file_work.OpenedFileWork.go.Goals as goal

pub returns-in-Ok-clause-done : goal.returns-in-Ok-clause-done
returns-in-Ok-clause-done g c = λ was clean.
    let shut = g.met.S.Store.shut_if_dirty c.args.conn.store in
    let closed = c.close.ensures in
    let ran = c.run-gain.ensures in
    let begun = c.in-Ok.ensures in
    let ours = ours_open g.S.Store c.args.conn shut was in
    let honest = closed.honest.1 clean in
    let first = ran.honest honest in
    let (s, keeps, means) = begun.accepts ours first in
    let alone = begun.durable first s means in
    let is_open = subst (λ (group : Group). IsOpenIn group (state g.S.Store c.in-Ok.keeper.conn)) begun.alone (begun.opened first) in
    let ungrouped = ran.ungrouped begun.alone in
    let lands = ran.lands s (record { means = means; is_honest = honest; sound = keeps.sound }) (record { alone = alone.alone; whole = alone.whole }) in
    record {
      early = clean_open g.S.Store c.args.conn shut ((begun.same ours first).was_open is_open);
      before = s;
      after = lands.after;
      asked = lands.asked;
      kept = keeps;
      keeps = (closed.means ungrouped lands.after).0 lands.left.means;
      step = lands.step;
      crash = λ t may. lands.crash t ((closed.leaves ungrouped t).1 may);
      whole = (closed.whole ungrouped).0 lands.whole;
    }

pub returns-in-Err-clause-undone : goal.returns-in-Err-clause-undone
returns-in-Err-clause-undone g c =
    let old = c.args.conn in
    let shut = g.met.S.Store.shut_if_dirty old.store in
    let new = state g.S.Store c.in-Err.conn in (
      c.refuse.ensures,
      still_sees g.S.Store old shut new c.in-Err.ensures.kept,
      λ was. spares_shown g.S.Store old shut new _ (λ db is_open may. g.met.S.Store.settled old.store db is_open may) (c.in-Err.ensures.spares (ours_open g.S.Store old shut was)),
    )
