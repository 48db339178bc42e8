use Rattle.std.proofs.Common.{refl}
use Rattle.std.proofs.lemmas.Bool.{false≢true}
use Rattle.sqlite.specs.Held.{state}
use Rattle.dropoffice.proofs.Ended.{ours_open, spares_shown, still_sees}
use Rattle.dropoffice.proofs.migrating.MigrationFileWork.go.Goals as goal

pub returns-in-Ok-clause-done : goal.returns-in-Ok-clause-done
returns-in-Ok-clause-done g c = (
  refl,
  λ was clean.
      let closed = c.close.ensures in
      let begun = c.in-Ok.ensures in
      let ours = ours_open g.S.Store c.args.conn (g.met.S.Store.shut_if_dirty c.args.conn.store) was in
      let honest = closed.honest.1 clean in
      let (s, file, means) = begun.accepts ours honest in
      let alone = begun.durable honest s means in
      record {
        early = begun.early honest;
        office = s;
        kept = file;
        keeps = (closed.means begun.alone s).0 means;
        crash = λ t may. alone.alone t ((closed.leaves begun.alone t).1 may);
        whole = (closed.whole begun.alone).0 alone.whole;
      },
)

pub returns-in-Err-clause-undone : goal.returns-in-Err-clause-undone
returns-in-Err-clause-undone g c =
    let old = c.args.conn in
    let shut = g.met.S.Store.shut_if_dirty old.store in
    let new = state g.S.Store c.in-Err.conn in (
      false≢true,
      still_sees g.S.Store old shut new c.in-Err.ensures.kept,
      λ was. spares_shown g.S.Store old shut new _ (λ db is_open may. g.met.S.Store.settled old.store db is_open may) (c.in-Err.ensures.spares (ours_open g.S.Store old shut was)),
    )
