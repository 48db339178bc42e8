use Rattle.std.proofs.Common.{◌≡◌, sym, ap, subst, OnOk, ◌∙◌, arith}
use Rattle.sqltables.specs.Inside.{seen}
use Rattle.sqltables.specs.Schema.{v2}
use Rattle.sqltables.specs.Tables.{tables_of}
use Rattle.sqltables.specs.Changes.{with_allowance}
use Rattle.sqltables.specs.Means.{Pends}
use Rattle.sqlchanges.proofs.Commands.{sets_seconds}
use Rattle.sqlchanges.proofs.Chained.{refused}
use Rattle.sqlchanges.proofs.changes.set_allowance.Goals as goal

pub returns-clause-done : goal.returns-clause-done
returns-clause-done g c s after pends obeyed =
    let it = sets_seconds s c.args.seconds after obeyed in
    let same : c.in-Ok.seconds ≡ c.args.seconds = c.in-Ok.ensures.1 in
    subst (λ t. OnOk c.update_allowance.result (Pends v2 (seen g.T.Ledger.view c.update_allowance.new.tx) t)) (ap (with_allowance (tables_of s)) same ∙ sym it) (c.update_allowance.ensures.done (tables_of s) pends)

pub returns-in_default-clause-rest : goal.returns-in_default-clause-rest
returns-in_default-clause-rest g c = refused c.args.tx.now

pub returns-clause-rest : goal.returns-clause-rest
returns-clause-rest g c = grind arith
