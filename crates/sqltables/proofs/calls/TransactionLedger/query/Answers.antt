use Rattle.std.proofs.Common.{rules, arith}
use Rattle.sqlite.specs.Held.{state}
use Rattle.sqltables.proofs.Runs.{query_keeps, query_runs}
use Rattle.sqltables.proofs.calls.TransactionLedger.query.Goals as goal

pub returns-clause-rest : goal.returns-clause-rest
returns-clause-rest g c =
    let old = state g.S.Store c.args.self.now.conn.now in
    let new = state g.S.Store c.query_all.new.self.conn.now in
    record {
      same_reference = record { name = search rules; apart = λ apart. apart };
      running = λ clean inside. query_runs (λ v. v.items) _ _ old new c.query_all.result inside (c.query_all.ensures.ok clean);
      uncommitted = λ clean inside. query_keeps (λ v. v.items) _ _ old new c.query_all.result inside (c.query_all.ensures.ok clean) (c.query_all.ensures.err clean);
      survives = c.query_all.ensures.survives;
    }

pub returns-clause-ok : goal.returns-clause-ok
returns-clause-ok g c = grind arith
