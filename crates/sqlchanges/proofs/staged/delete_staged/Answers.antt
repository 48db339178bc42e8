use Rattle.std.proofs.Common.{arith, sym, ◌∙◌}
use Rattle.std.proofs.lemmas.Result.{on_ok_weaker}
use Rattle.sqltables.specs.Inside.{seen}
use Rattle.sqlite.specs.State.{HasCleanDisk}
use Rattle.sqlchanges.proofs.StagedRows.{deletes_staged, others_stay, still_holds}
use Rattle.sqlchanges.proofs.Ran.{ran_then}
use Rattle.sqlchanges.proofs.staged.delete_staged.Goals as goal

pub returns-clause-schema : goal.returns-clause-schema
returns-clause-schema g c has clean = on_ok_weaker c.run.result (λ run.
    let old = seen g.T.Ledger.view c.args.tx.now in
    let new = seen g.T.Ledger.view c.run.new.tx in
    let ran = run.executed in
    let schema = has ran.1.was_open in
    (deletes_staged old new run.count schema ran.0).same_schema ∙ sym schema) (c.run.ensures.ran clean)

pub returns-clause-others : goal.returns-clause-others
returns-clause-others g c has clean = on_ok_weaker c.run.result (λ run.
    let old = seen g.T.Ledger.view c.args.tx.now in
    let new = seen g.T.Ledger.view c.run.new.tx in
    let ran = run.executed in
    let schema = has ran.1.was_open in
    others_stay old.now new.now schema (deletes_staged old new run.count schema ran.0)) (c.run.ensures.ran clean)

pub returns-clause-done : goal.returns-clause-done
returns-clause-done g c tables pends = ran_then c.run.result c.run.ensures.ran (λ clean run inside is_open.
    let old = seen g.T.Ledger.view c.args.tx.now in
    let new = seen g.T.Ledger.view c.run.new.tx in
    let early : HasCleanDisk old = omega (arith, c.run.ensures.rest.survives.clean) in
    let ran = run.executed in
    let it = pends early run.inside ran.1.was_open in
    still_holds old.now new.now tables it.means (deletes_staged old new run.count it.schema ran.0))
