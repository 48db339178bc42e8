use Rattle.std.proofs.lemmas.Bool.{false≢true}
use Rattle.sqlite.specs.Held.{state}
use Rattle.dropoffice.proofs.Ended.{spares_shown}
use Rattle.dropoffice.proofs.init.MakingFileWork.go.Goals as goal

pub returns-in-Ok-clause-done : goal.returns-in-Ok-clause-done
returns-in-Ok-clause-done g c = λ fit clean.
    let closed = c.close.ensures in
    let made = c.in-Ok.ensures in
    let honest = closed.honest.1 clean in
    let alone = made.durable fit.from fit.to fit.is_id fit.is_secret honest in
    record {
      bare = made.bare;
      early = made.early honest;
      keeps = (closed.means made.alone _).0 (made.made fit.from fit.to fit.is_id fit.is_secret);
      whole = (closed.whole made.alone).0 alone.whole;
      alone = λ t may. alone.alone t ((closed.leaves made.alone t).1 may);
    }

pub returns-in-Err-clause-undone : goal.returns-in-Err-clause-undone
returns-in-Err-clause-undone g c =
    let old = c.args.conn in (
      false≢true,
      λ fit. spares_shown g.S.Store old (g.met.S.Store.shut_if_dirty old.store) (state g.S.Store c.in-Err.conn) _ (λ db is_open may. g.met.S.Store.settled old.store db is_open may) (c.in-Err.ensures.spares fit.from fit.to fit.is_id fit.is_secret),
    )
