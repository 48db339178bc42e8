use Rattle.std.proofs.Common.{[], ◌∷◌}
use Rattle.sqltables.specs.Inside.{seen}
use Rattle.sqltables.specs.Schema.{s6, s7, s8, s9}
use Rattle.sqlchanges.proofs.Chained.{goes_on_then, failed}
use Rattle.sqlchanges.proofs.Upgrades.{adds_rules, adds_limits, adds_staged, begins_more}
use Rattle.sqlchanges.proofs.making.add_tables.Goals as goal

pub returns-clause-done : goal.returns-clause-done
returns-clause-done g c tables pends =
    let begun = seen g.T.Ledger.view c.args.tx.now in
    let rules = c.in_ok-create_table.ensures.added s6 s7 [] (11 ∷ []) tables (adds_rules tables _ _) (λ clean inside is_open. begins_more tables begun.now (pends clean inside is_open)) in
    let limits = c.in_ok-create_table-2.ensures.added s7 s8 (11 ∷ []) (12 ∷ 11 ∷ []) tables (adds_limits tables _ _) rules in
    c.create_table-3.ensures.added s8 s9 (12 ∷ 11 ∷ []) (14 ∷ 12 ∷ 11 ∷ []) tables (adds_staged tables _ _) limits

pub returns-clause-rest : goal.returns-clause-rest
returns-clause-rest g c =
    let two = goes_on_then g.T.Ledger.view _ _ _ _ _ c.create_table.ensures.rest c.create_table-2.ensures.rest in
    goes_on_then g.T.Ledger.view _ _ _ _ _ two c.create_table-3.ensures.rest

pub returns-in_err-create_table-clause-rest : goal.returns-in_err-create_table-clause-rest
returns-in_err-create_table-clause-rest g c = failed c.from_residual.result c.create_table.ensures.rest c.from_residual.ensures.0

pub returns-in_err-create_table-2-clause-rest : goal.returns-in_err-create_table-2-clause-rest
returns-in_err-create_table-2-clause-rest g c =
    let two = goes_on_then g.T.Ledger.view _ _ _ _ _ c.create_table.ensures.rest c.create_table-2.ensures.rest in
    failed c.from_residual-in_err-create_table-2.result two c.from_residual-in_err-create_table-2.ensures.0
