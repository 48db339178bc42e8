use Rattle.std.proofs.Common.{◌≡◌, arith, sym, subst, ◌∙◌}
use Rattle.std.specs.Prelude.{IfOk}
use Rattle.std.proofs.lemmas.Result.{on_ok_weaker}
use Rattle.sqltables.specs.Inside.{seen}
use Rattle.sqlite.specs.State.{HasCleanDisk}
use Rattle.sqlite.specs.Effect.{Database}
use Rattle.sqltables.proofs.Results.{at_answer}
use Rattle.sqlaudit.specs.Lines.{AreLinesWhere, HaveRowids}
use Rattle.sqlaudit.specs.Portions.{AreRowids, Passes}
use Rattle.sqlaudit.proofs.PortionRows.{counted}
use Rattle.sqlaudit.proofs.StillReads.{begins, goes_on}
use Rattle.sqltables.proofs.Onward.{and_then, failed}
use Rattle.sqlaudit.proofs.portions.list_long.Goals as goal

pub returns-clause-read : goal.returns-clause-read
returns-clause-read g c v tree test show counts asks schema inside clean =
    let entry = seen g.T.Ledger.view c.args.tx.now in
    let mid = seen g.T.Ledger.view c.list_numbers.new.tx in
    let early : HasCleanDisk mid = omega (arith, clean, c.list_portions.ensures.rest.survives.clean) in
    let all = counted v c.args.rowids.now tree counts entry mid schema c.in_ok-numbers.numbers.items (c.in_ok-numbers.ensures.read early) in
    let running = c.in_ok-numbers.ensures.rest.running early inside in
    let still = goes_on v entry entry mid (begins v entry schema inside) all.same running (c.list_numbers.ensures.rest.uncommitted early inside) in
    let are = subst (λ (d : Database). AreRowids (d.trees tree) c.in_ok-numbers.numbers.items) (sym all.same) all.rowids in
    let listed = c.list_portions.ensures.read v tree test show asks (subst (AreRowids (mid.now.trees tree)) (sym c.deref.ensures.value) are) still.schema running clean in
    subst (λ (d : Database). IfOk c.list_portions.result (λ lines. AreLinesWhere (Passes test) (λ row line. g.L.Line.reads (show row) line) (d.trees tree) lines.items)) all.same listed

pub returns-clause-rowids : goal.returns-clause-rowids
returns-clause-rowids g c v tree counts schema inside clean =
    let entry = seen g.T.Ledger.view c.args.tx.now in
    let mid = seen g.T.Ledger.view c.list_numbers.new.tx in
    let early : HasCleanDisk mid = omega (arith, clean, c.list_portions.ensures.rest.survives.clean) in
    let all = counted v c.args.rowids.now tree counts entry mid schema c.in_ok-numbers.numbers.items (c.in_ok-numbers.ensures.read early) in
    at_answer {P = HaveRowids (entry.now.trees tree)} c.list_portions.result all.have

pub returns-clause-same : goal.returns-clause-same
returns-clause-same g c v tree test show counts asks schema inside clean =
    let entry = seen g.T.Ledger.view c.args.tx.now in
    let mid = seen g.T.Ledger.view c.list_numbers.new.tx in
    let now = seen g.T.Ledger.view c.list_portions.new.tx in
    let early : HasCleanDisk mid = omega (arith, clean, c.list_portions.ensures.rest.survives.clean) in
    let all = counted v c.args.rowids.now tree counts entry mid schema c.in_ok-numbers.numbers.items (c.in_ok-numbers.ensures.read early) in
    let running = c.in_ok-numbers.ensures.rest.running early inside in
    let still = goes_on v entry entry mid (begins v entry schema inside) all.same running (c.list_numbers.ensures.rest.uncommitted early inside) in
    on_ok_weaker {P = now.now ≡ mid.now} {Q = now.now ≡ entry.now} c.list_portions.result (λ e. e ∙ all.same) (c.list_portions.ensures.same v tree test show asks still.schema running clean)

pub returns-in_err-numbers-clause-rest : goal.returns-in_err-numbers-clause-rest
returns-in_err-numbers-clause-rest g c = failed c.from_residual.result c.list_numbers.ensures.rest c.from_residual.ensures.0

pub returns-clause-rest : goal.returns-clause-rest
returns-clause-rest g c = and_then (λ began. began) (λ running. (running, running)) c.in_ok-numbers.ensures.rest c.list_portions.ensures.rest

pub returns-in_err-numbers-clause-read : goal.returns-in_err-numbers-clause-read
returns-in_err-numbers-clause-read g c = grind arith

pub returns-in_err-numbers-clause-rowids : goal.returns-in_err-numbers-clause-rowids
returns-in_err-numbers-clause-rowids g c = grind arith

pub returns-in_err-numbers-clause-same : goal.returns-in_err-numbers-clause-same
returns-in_err-numbers-clause-same g c = grind arith
