use Rattle.std.proofs.Common.{subst, OnOk, arith}
use Rattle.sqltables.specs.Inside.{seen}
use Rattle.sqltables.specs.Changes.{with_box, with_totals}
use Rattle.sqltables.specs.Means.{Pends}
use Rattle.sqlchanges.proofs.Numbers.{handed}
use Rattle.sqlchanges.proofs.Chained.{refused}
use Rattle.sqlchanges.proofs.changes.set_totals.Goals as goal

pub returns-clause-done : goal.returns-clause-done
returns-clause-done g c v tables b ours pends there =
    subst (λ n. OnOk c.update_totals.result (Pends v (seen g.T.Ledger.view c.update_totals.new.tx) (with_box tables c.args.name.now (with_totals c.args.totals.used n b)))) c.in-Ok-Ok.ensures'.1
    (c.update_totals.ensures.done v tables b c.args.totals.used ours pends there (handed c.in-Ok-Ok.used c.args.totals.used c.in-Ok-Ok.ensures.0 c.in-Ok-Ok.ensures.1))

pub returns-in_default-clause-rest : goal.returns-in_default-clause-rest
returns-in_default-clause-rest g c = refused c.args.tx.now

pub returns-in_default-2-clause-rest : goal.returns-in_default-2-clause-rest
returns-in_default-2-clause-rest g c = refused c.args.tx.now

pub returns-clause-rest : goal.returns-clause-rest
returns-clause-rest g c = grind arith

pub returns-in_default-2-clause-done : goal.returns-in_default-2-clause-done
returns-in_default-2-clause-done g c = grind arith

pub returns-in_default-clause-done : goal.returns-in_default-clause-done
returns-in_default-clause-done g c = grind arith
