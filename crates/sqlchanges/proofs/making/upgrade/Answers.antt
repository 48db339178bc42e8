use Rattle.std.proofs.Common.{subst, OnOk}
use Rattle.sqltables.specs.Inside.{seen}
use Rattle.sqltables.specs.Schema.{v2}
use Rattle.sqltables.specs.Changes.{with_allowance}
use Rattle.sqltables.specs.Means.{Pends}
use Rattle.sqlchanges.proofs.Chained.{failed, goes_on_then}
use Rattle.sqlchanges.proofs.making.upgrade.Goals as goal

pub returns-clause-done : goal.returns-clause-done
returns-clause-done g c tables pends =
    let rules = c.in_ok-insert_rules.ensures.done tables (c.in_ok-add_tables.ensures.done tables pends) in
    subst (λ n. OnOk c.update_version.result (Pends v2 (seen g.T.Ledger.view c.update_version.new.tx) (with_allowance tables n)))
    c.seconds.ensures.value (c.update_version.ensures.done tables c.seconds.result rules)

pub returns-clause-unstaged : goal.returns-clause-unstaged
returns-clause-unstaged g c tables pends =
    c.update_version.ensures.unstaged tables c.seconds.result (c.in_ok-insert_rules.ensures.done tables (c.in_ok-add_tables.ensures.done tables pends))

pub returns-in_err-add_tables-clause-rest : goal.returns-in_err-add_tables-clause-rest
returns-in_err-add_tables-clause-rest g c = failed c.from_residual.result c.add_tables.ensures.rest c.from_residual.ensures.0

pub returns-in_err-insert_rules-clause-rest : goal.returns-in_err-insert_rules-clause-rest
returns-in_err-insert_rules-clause-rest g c =
    let two = goes_on_then g.T.Ledger.view _ _ _ _ _ c.add_tables.ensures.rest c.insert_rules.ensures.rest in
    failed c.from_residual-in_err-insert_rules.result two c.from_residual-in_err-insert_rules.ensures.0

pub returns-clause-rest : goal.returns-clause-rest
returns-clause-rest g c =
    let two = goes_on_then g.T.Ledger.view _ _ _ _ _ c.add_tables.ensures.rest c.insert_rules.ensures.rest in
    goes_on_then g.T.Ledger.view _ _ _ _ _ two c.update_version.ensures.rest
