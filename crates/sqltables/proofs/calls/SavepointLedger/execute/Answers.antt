use Rattle.std.proofs.Common.{arith, ap, subst, sym, ◌∙◌}
use Rattle.sqlite.specs.Held.{state}
use Rattle.sqltables.specs.Apart.{IsApart}
use Rattle.sqlite.specs.State.{KeepsCommit}
use Rattle.sqltables.proofs.Apart.{apart_executed, mark_keeps, mark_ran, mark_running}
use Rattle.sqltables.proofs.Runs.{itself_keeps}
use Rattle.sqltables.proofs.calls.SavepointLedger.execute.Goals as goal

pub returns-clause-ran : goal.returns-clause-ran
returns-clause-ran g c clean =
    mark_ran _ _ _ (state g.S.Store c.args.self.now.conn.now) (state g.S.Store c.execute.new.self.conn.now) c.execute.result _ _ c.execute.ensures.ended (c.execute.ensures.runs clean)

pub returns-clause-rest : goal.returns-clause-rest
returns-clause-rest g c =
    let old = state g.S.Store c.args.self.now.conn.now in
    let new = state g.S.Store c.execute.new.self.conn.now in
    record {
      same_reference = record {
        name = c.execute.ensures.same_reference;
        apart = λ apart. subst (IsApart new) (sym c.execute.ensures.place) (apart_executed old new c.args.self.now.at (λ clean. omega (arith, clean, c.execute.ensures.survives.clean)) apart _ _ c.execute.result
            (λ none. ap (λ h. (state g.S.Store h).in_transaction) (c.execute.ensures.ended none).1 ∙ none) c.execute.ensures.runs);
      };
      running = λ clean. mark_running _ _ _ old new c.execute.result _ _ c.execute.ensures.ended (c.execute.ensures.runs clean);
      uncommitted = λ clean. mark_keeps _ _ _ old new c.execute.result (λ none. subst (λ h. KeepsCommit old (state g.S.Store h)) (sym (c.execute.ensures.ended none).1) (itself_keeps old)) (c.execute.ensures.runs clean);
      survives = c.execute.ensures.survives;
    }
